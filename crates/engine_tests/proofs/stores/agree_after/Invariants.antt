use Rattle.std.proofs.Common.{ℕ, ◌<◌, length, get_or}
use Rattle.engine_tests.proofs.stores.agree_after.Given as goal

abbrev pub invariant-loop-round : goal.invariant-loop-round
invariant-loop-round g l = (k : ℕ) → k < length l.ids.items → get_or l.ids.items k 0 < length l.store.entries
