use Rattle.std.proofs.Common.{◌+◌, ◌++◌, ◌∷◌, [], ℕ, List, OnOk, append_assoc, map, subst, rules}
use Rattle.std.specs.Fmt.{decimal}
use Rattle.answer_print.specs.WrittenRecords.{HasFields}
use Rattle.union_all.specs.Rows.{rows_of}
use Rattle.union_all.proofs.line.push_places.Goals as goal

pub returns : goal.returns
returns c = λ fields has.
    let rows = map decimal (rows_of c.args.query.now c.args.tagged.now.rows) in
    let more = append_assoc fields (decimal (c.args.tagged.now.branch + 1) ∷ []) rows in
    let branch : HasFields (fields ++ decimal (c.args.tagged.now.branch + 1) ∷ []) c.push_signed.new.records.begun = search rules in
    subst (λ (fs : List (List ℕ)). OnOk c.push_rows.result (HasFields fs c.push_rows.new.records.begun)) more (c.push_rows.ensures _ branch)
