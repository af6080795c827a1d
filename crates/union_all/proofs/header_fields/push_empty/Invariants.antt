use Rattle.std.proofs.Common.{◌++◌, [], ℕ, List, replicate}
use Rattle.answer_print.specs.WrittenRecords.{HasFields}
use Rattle.union_all.proofs.header_fields.push_empty.Given as goal

abbrev pub invariant-loop-field : goal.invariant-loop-field
invariant-loop-field l =
    (fields : List (List ℕ)) → HasFields fields l.initial.records.begun → HasFields (fields ++ replicate l._field []) l.records.begun
