use Rattle.std.proofs.Common.{◌≡◌, ◌<◌, ◌+◌, ◌∷◌, ◌++◌, [], ◌∙◌, ℕ, List, sym, ap, take, length, append_assoc, arith}
use Rattle.std.proofs.lemmas.List.{take_all, take_more}
use Rattle.std.proofs.Math.Seq.{take-append_seam}
use Rattle.csv.specs.Records.{fields_of}
use Rattle.csv.proofs.RecordFacts.{cut-length, field-get, field-there}
use Rattle.anyk_model.specs.Table.{Fields}
use Rattle.csv_tables.proofs.fields.FieldWriter.push_record.Goals as goal

pub unreachable-requires : goal.unreachable-requires
unreachable-requires c =
    field-there (fields_of c.args.row.now) c.loop-i.i (omega (arith, c.loop-i-test.true, c.len-i-end.ensures)) (sym c.in_default.ensures.value)

pub returns-in-Err-clause-err : goal.returns-in-Err-clause-err
returns-in-Err-clause-err c =
    let old = c.args.self.now in
    let fields = take c.loop-i.i (fields_of c.args.row.now) in
    let count : c.len-count.result ≡ length old =
    omega (arith, c.len-count.ensures, c.self.inside.ends.ok.0, ap length c.self.view_is, cut-length 0 c.self.inside.ends.items c.self.inside.bytes.items) in
    let kept : c.push.new.self ≡ old ++ fields = c.in-Err.ensures.err ∙ c.loop-i.invariant in
    c.truncate.ensures ∙ (λ i. take (count i) (kept i)) ∙ take-append_seam old fields

pub loop-i-preserved : goal.loop-i-preserved
loop-i-preserved c =
    let row = fields_of c.args.row.now in
    let fields = take c.loop-i.i row in
    let field = c.in-Some.field.now in
    let inside : c.loop-i.i < length row = omega (arith, c.loop-i-test.true, c.len-i-end.ensures) in
    let step : take (c.loop-i.i + 1) row ≡ fields ++ field ∷ [] =
    take_more row c.loop-i.i [] inside ∙ ap (λ (f : List ℕ). fields ++ f ∷ []) (field-get row c.loop-i.i field (sym c.in-Some.ensures.value)) in
    c.in_default-push.ensures.added ∙ ap (λ (l : Fields). l ++ field ∷ []) c.loop-i.invariant
    ∙ append_assoc c.args.self.now fields (field ∷ []) ∙ ap (λ (l : Fields). c.args.self.now ++ l) (sym step)

pub returns-clause-added : goal.returns-clause-added
returns-clause-added c =
    c.loop-i.invariant ∙ ap (λ (fields : List (List ℕ)). c.args.self.now ++ fields) (take_all c.loop-i.i (fields_of c.args.row.now) (rw c.len-i-end.ensures at c.loop-i-test.false))
