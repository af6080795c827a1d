use Rattle.std.proofs.Common.{◌≡◌, ◌<◌, ℕ, length, slice_index}
use Rattle.proof_check.specs.Subtrees.{raw_below}
use Rattle.proof_check.proofs.subtree.subtree.Given as goal

abbrev pub invariant-loop-child : goal.invariant-loop-child
invariant-loop-child g l = record {
  long : length l.below ≡ 16;
  below : (q : ℕ) → q < l.child → q < length l.raw.shapes → slice_index l.below q ≡ raw_below l.raw l.node q;
}
