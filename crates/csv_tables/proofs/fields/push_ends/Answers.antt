use Rattle.std.proofs.Common.{◌≡◌, ◌<◌, ◌+◌, ◌∷◌, ◌++◌, [], ◌∙◌, ℕ, List, sym, ap, subst, take, length, append_assoc, append-nil, length-append, refl, arith}
use Rattle.std.proofs.lemmas.List.{take_more}
use Rattle.std.specs.List.{concat}
use Rattle.csv.specs.Records.{fields_of, text_of}
use Rattle.csv.proofs.RecordFacts.{cut-length, field-get, field-there}
use Rattle.csv_tables.specs.Fields.{ends_from}
use Rattle.csv_tables.proofs.Fronts.{concat_push, ends_push, field_lies, front_more, reaches_more, reaches_none}
use Rattle.table_store.proofs.Weights.{some_bytes}
use Rattle.csv_tables.proofs.fields.push_ends.Goals as goal

pub loop-i-init : goal.loop-i-init
loop-i-init c =
    (sym (append-nil c.args.ends.now.items), omega (arith, c.requires.room), omega arith, refl, reaches_none c.args.row.now.ends c.args.row.now.bytes)

pub unreachable-requires : goal.unreachable-requires
unreachable-requires c =
    field-there (fields_of c.args.row.now) c.loop-i.i (omega (arith, c.loop-i-test.true, c.len-i-end.ensures)) (sym c.in_default.ensures.value)

pub overflow_cast-end : goal.overflow_cast-end
overflow_cast-end c =
    let row = c.args.row.now in
    let x = c.in-Some.field.now in
    let inv = c.loop-i.invariant in
    let inside : c.loop-i.i < length row.ends = omega (arith, c.loop-i-test.true, c.len-i-end.ensures, cut-length 0 row.ends row.bytes) in
    let lies = field_lies row.ends row.bytes c.loop-i.i x inside (sym c.in-Some.ensures.value) in
    let some : 0 < length x = some_bytes (length x) c.is_empty.ensures c.if-is_empty.false in
    let more = reaches_more row.ends row.bytes c.loop-i.i (length (concat (take c.loop-i.i (fields_of row)))) x inside inv.4 lies some in
    omega (arith, more.within, inv.2, c.requires.size)

pub loop-i-preserved : goal.loop-i-preserved
loop-i-preserved c =
    let row = c.args.row.now in
    let x = c.in-Some.field.now in
    let inv = c.loop-i.invariant in
    let fields = fields_of row in
    let front = take c.loop-i.i fields in
    let old = c.args.ends.now.items in
    let inside : c.loop-i.i < length row.ends = omega (arith, c.loop-i-test.true, c.len-i-end.ensures, cut-length 0 row.ends row.bytes) in
    let lies = field_lies row.ends row.bytes c.loop-i.i x inside (sym c.in-Some.ensures.value) in
    let some : 0 < length x = some_bytes (length x) c.is_empty.ensures c.if-is_empty.false in
    let step : take (c.loop-i.i + 1) fields ≡ front ++ x ∷ [] =
    take_more fields c.loop-i.i [] (omega (arith, c.loop-i-test.true, c.len-i-end.ensures))
    ∙ ap (λ (f : List ℕ). front ++ f ∷ []) (field-get fields c.loop-i.i x (sym c.in-Some.ensures.value)) in
    rw (step, ends_push c.args.start front x, concat_push front x, length-append (concat front) x) (
      c.push_reserved.ensures.items ∙ (λ i. inv.0 i ++ (inv.2 i + length x) ∷ []) ∙ append_assoc old (ends_from c.args.start front) _,
      omega (arith, inv.1, c.push_reserved.ensures.len, c.push_reserved.ensures.capacity),
      omega (arith, inv.2),
      front_more row.ends row.bytes c.loop-i.i (length (concat front)) x inside inv.4 lies some ∙ ap (λ (l : List ℕ). l ++ x) inv.3,
      reaches_more row.ends row.bytes c.loop-i.i (length (concat front)) x inside inv.4 lies some,
    )

pub returns-then-is_empty : goal.returns-then-is_empty
returns-then-is_empty c =
    let inv = c.loop-i.invariant in
    record { within = omega (arith, c.loop-i-test.true, c.len-i-end.ensures); ends = inv.0; end = inv.2; text = inv.3 }

pub returns : goal.returns
returns c =
    let inv = c.loop-i.invariant in
    let fields = fields_of c.args.row.now in
    let all : c.loop-i.i ≡ c.len.result = omega (arith, c.loop-i-test.false, c.len-i-end.ensures, c.len.ensures) in
    record {
      within = omega (arith, c.len.ensures);
      ends = subst (λ k. c.loop-i.ends.items ≡ c.args.ends.now.items ++ ends_from c.args.start (take k fields)) all inv.0;
      end = subst (λ k. c.loop-i.end ≡ c.args.start + length (concat (take k fields))) all inv.2;
      text = subst (λ k. take (length (concat (take k fields))) (text_of c.args.row.now) ≡ concat (take k fields)) all inv.3;
    }
