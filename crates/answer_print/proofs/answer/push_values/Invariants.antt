use Rattle.std.proofs.Common.{◌++◌, ℕ, List, length, map, take}
use Rattle.anyk_model.specs.Query.{value_of}
use Rattle.answer_print.specs.WrittenRecords.{HasFields}
use Rattle.answer_print.proofs.answer.push_values.Given as goal

abbrev pub invariant-loop-item : goal.invariant-loop-item
invariant-loop-item l =
    (fields : List (List ℕ)) → HasFields fields l.initial.records.begun
    → HasFields (fields ++ map (value_of l.query.query l.tables (take (length l.query.query.items) l.rows)) (take l.item-index l.query.query.list)) l.records.begun
