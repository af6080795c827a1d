use Rattle.std.proofs.Common.{◌≡◌, ◌≤◌, ◌<◌, ◌+◌, ◌*◌, ℕ, cond, nat_lt, length}
use Rattle.tdp_model.specs.TreeProblem.{sum_from}
use Rattle.tdp_core.specs.RawView.{shape_item}
use Rattle.proof_check.specs.Subtrees.{AreBelow, raw_below}
use Rattle.proof_check.proofs.subtree.item_place.Given as goal

abbrev pub invariant-loop-other : goal.invariant-loop-other
invariant-loop-other g l = record {
  few : l.place ≤ l.other;
  sum : (v : ℕ) → v < length l.raw.shapes → AreBelow l.raw v l.below
      → l.place ≡ sum_from ◌+◌ 0
      (λ u. raw_below l.raw v u * cond (nat_lt (shape_item l.raw.shapes u) (shape_item l.raw.shapes l.node)) 1 0) l.other 0;
}
