use Rattle.std.proofs.Common.{◌≡◌, ◌≤◌, ◌<◌, ◌+◌, ℕ, length}
use Rattle.tdp_model.specs.TreeProblem.{sum_from}
use Rattle.proof_check.specs.Subtrees.{AreBelow, raw_below}
use Rattle.proof_check.proofs.subtree.size.Given as goal

abbrev pub invariant-loop-node : goal.invariant-loop-node
invariant-loop-node g l = record {
  few : l.size ≤ l.node;
  sum : (v : ℕ) → v < length l.raw.shapes → AreBelow l.raw v l.below → l.size ≡ sum_from ◌+◌ 0 (raw_below l.raw v) l.node 0;
}
