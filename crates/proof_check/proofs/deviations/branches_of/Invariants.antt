use Rattle.std.proofs.Common.{◌≡◌, length}
use Rattle.proof_check.specs.Levels.{AreOpenPlaces}
use Rattle.proof_check.proofs.deviations.branches_of.Given as goal

abbrev pub invariant-loop-n : goal.invariant-loop-n
invariant-loop-n g l = record {
  count : length l.branches.items ≡ l.n;
  each : AreOpenPlaces l.join l.tree g.R.Rank.KEYS g.R.Rank.key l.node l.starts l.branches.items;
}
