use Rattle.std.proofs.Common.{◌≡◌, length}
use Rattle.proof_check.specs.Levels.{AreLeast}
use Rattle.proof_check.proofs.deviations.least_of.Given as goal

abbrev pub invariant-loop-n : goal.invariant-loop-n
invariant-loop-n g l = record {
  count : length l.least.items ≡ l.count;
  least : AreLeast g.R.Rank.KEYS g.R.Rank.key l.n l.branches l.least.items;
}
