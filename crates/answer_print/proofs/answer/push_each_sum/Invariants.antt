use Rattle.std.proofs.Common.{◌++◌, ℕ, List, length, map, take}
use Rattle.std.specs.Fmt.{signed_decimal}
use Rattle.anyk_model.specs.Query.{OrderKey, sum_of}
use Rattle.answer_print.specs.WrittenRecords.{HasFields}
use Rattle.answer_print.proofs.answer.push_each_sum.Given as goal

abbrev pub invariant-loop-key : goal.invariant-loop-key
invariant-loop-key l =
    (fields : List (List ℕ)) → HasFields fields l.initial.records.begun
    → HasFields (fields
    ++ map (λ (k : OrderKey). signed_decimal (sum_of l.query.query l.tables (take (length l.query.query.items) l.rows) k)) (take l.key l.query.query.order)) l.records.begun
