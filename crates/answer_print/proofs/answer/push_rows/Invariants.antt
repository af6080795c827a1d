use Rattle.std.proofs.Common.{◌++◌, ℕ, List, map, take}
use Rattle.std.specs.Fmt.{decimal}
use Rattle.answer_print.specs.WrittenRecords.{HasFields}
use Rattle.answer_print.proofs.answer.push_rows.Given as goal

abbrev pub invariant-loop-row : goal.invariant-loop-row
invariant-loop-row l =
    (fields : List (List ℕ)) → HasFields fields l.initial.records.begun → HasFields (fields ++ map decimal (take l.row-index l.row-items)) l.records.begun
