use Rattle.std.proofs.Common.{ℕ, ◌<◌, length, get_or}
use Rattle.engine_tests.proofs.stores.fill.Given as goal

abbrev pub invariant-loop-value : goal.invariant-loop-value
invariant-loop-value g l = (k : ℕ) → k < length l.ids.items → get_or l.ids.items k 0 < length l.store.entries
