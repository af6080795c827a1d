use Rattle.std.proofs.Common.{◌≡◌, length, take}
use Rattle.bound_query.specs.Weights.{key_at}
use Rattle.answer_print.proofs.KeySums.{added}
use Rattle.answer_print.proofs.answer.key_sum.Given as goal

abbrev pub invariant-loop-term : goal.invariant-loop-term
invariant-loop-term l = l.sum ≡ added l.query.query l.tables (take (length l.query.query.items) l.rows) l.term-index (key_at l.query.query.order l.key).terms
