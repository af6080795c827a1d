use Rattle.std.proofs.Common.{◌≡◌, ◌+◌, ◌<◌, ℕ, length, replicate, get_or, slice_index, sym, ap, subst, ◌∙◌, arith}
use Rattle.std.proofs.Math.ListN.{set, length-set}
use Rattle.std.proofs.lemmas.List.{length-replicate}
use Rattle.proof_check.specs.Subtrees.{raw_below}
use Rattle.proof_check.proofs.Subtrees.{below_begun, below_more}
use Rattle.proof_check.proofs.Counts.{below_count}
use Rattle.proof_check.proofs.subtree.subtree.Goals as goal

pub loop-child-init : goal.loop-child-init
loop-child-init g c = record {
  long = length-set (replicate 16 0) c.args.node 1 ∙ length-replicate {A = ℕ} 16 0;
  below = below_begun c.args.raw.now c.nodes-nodes.ensures.formed.shaped c.args.node c.requires;
}

pub loop-child-preserved : goal.loop-child-preserved
loop-child-preserved g c =
    let inside : c.loop-child.child < length c.args.raw.now.shapes = below_count _ _ _ c.loop-child-test.true c.nodes-nodes.ensures.count in
    record {
      long = length-set c.loop-child.below c.loop-child.child (get_or c.loop-child.below c.shape.result.now.parent 0)
          ∙ c.loop-child.invariant.long;
      below = subst (λ (p : ℕ). (q : ℕ) → q < c.loop-child.child + 1 → q < length c.args.raw.now.shapes
          → slice_index (set c.loop-child.below c.loop-child.child (get_or c.loop-child.below p 0)) q
          ≡ raw_below c.args.raw.now c.args.node q)
          (sym (ap (λ s. s.parent) c.shape.ensures))
          (below_more c.args.raw.now c.nodes-nodes.ensures.formed.shaped c.args.node c.loop-child.child c.loop-child.below
          (omega arith) inside c.loop-child.invariant.long c.loop-child.invariant.below);
    }

pub returns : goal.returns
returns g c = λ q l.
    c.loop-child.invariant.below q (omega (arith, c.nodes-nodes.ensures.count)) l
