use Rattle.std.proofs.Common.{ℕ, ◌<◌, option_map}
use Rattle.proof_check.specs.Levels.{ArePrefixes, IsPassedAt}
use Rattle.proof_check.proofs.choices.all_leave_after.Given as goal

abbrev pub invariant-loop-node : goal.invariant-loop-node
invariant-loop-node g l = record {
  prefixes : ArePrefixes l.node l.places l.prefixes.numbers.items l.prefixes.starts.items;
  passed : (p : ℕ) → p < l.node
      → IsPassedAt l.join l.tree g.R.Rank.KEYS g.R.Rank.key l.places (option_map g.R.Rank.key l.last) p;
}
