use Rattle.std.proofs.Common.{◌≡◌, take, drop, ◌++◌}
use Rattle.rank_key.proofs.fixed_rank.copy_sums.Given as goal

abbrev pub invariant-loop-place : goal.invariant-loop-place
invariant-loop-place l = l.to ≡ take l.place l.from ++ drop l.place l.fn.to
