use Rattle.std.proofs.Common.{◌-◌, ℕ, ◌<◌, ◌≤◌}
use Rattle.tdp_core.specs.RawView.{raw_len, raw_number}
use Rattle.proof_check.specs.Subtrees.{AreAscending}
use Rattle.proof_check.proofs.searching.row_place.Given as goal

abbrev pub invariant-loop-low : goal.invariant-loop-low
invariant-loop-low g l = record {
  order : l.low ≤ l.high;
  most : l.high ≤ raw_len l.raw l.node;
  before : AreAscending l.raw l.node → (i : ℕ) → i < l.low → raw_number l.raw l.node i < l.row;
  after : AreAscending l.raw l.node → (i : ℕ) → l.high ≤ i → i < raw_len l.raw l.node → l.row < raw_number l.raw l.node i;
}

abbrev pub decreases-loop-low : goal.decreases-loop-low
decreases-loop-low g l = l.high - l.low
