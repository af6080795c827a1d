use Rattle.std.proofs.Common.{◌++◌, ℕ, List, map, take}
use Rattle.anyk_model.specs.Output.{column_name}
use Rattle.answer_print.specs.WrittenRecords.{HasFields}
use Rattle.answer_print.proofs.titles.push_names.Given as goal

abbrev pub invariant-loop-item : goal.invariant-loop-item
invariant-loop-item l =
    (fields : List (List ℕ)) → HasFields fields l.initial.records.begun
    → HasFields (fields ++ map (column_name l.query.query l.tables) (take l.item-index l.query.query.list)) l.records.begun
