use Rattle.std.proofs.Common.{◌++◌, ℕ, List}
use Rattle.anyk_model.specs.Output.{numbered}
use Rattle.answer_print.specs.WrittenRecords.{HasFields}
use Rattle.answer_print.proofs.titles.push_numbered.Given as goal

abbrev pub invariant-loop-place : goal.invariant-loop-place
invariant-loop-place l =
    (fields : List (List ℕ)) → HasFields fields l.initial.records.begun → HasFields (fields ++ numbered l.word l.place) l.records.begun
