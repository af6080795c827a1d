use Rattle.std.proofs.Common.{◌≡◌, ◌≢◌, ℕ, ◌+◌, ◌-◌, ◌<◌, length, sym, ap, subst, ◌∙◌, arith}
use Rattle.tdp_core.specs.RawView.{shape_parent}
use Rattle.tdp_core.specs.TreeView.{kids_below}
use Rattle.tdp_core.proofs.Children.{kids_below_first, kids_below_child, kids_below_other, kids_below_most, child_place_within}
use Rattle.proof_check.proofs.Counts.{above_root, ended_some, less_of}
use Rattle.proof_check.proofs.Subtrees.{parents_first_lem}
use Rattle.proof_check.proofs.subtree.child_place.Goals as goal
use Rattle.proof_check.proofs.subtree.child_place.Goals.{then-shape-parent, else-shape-parent}

rest_after : (v n : ℕ) → v < n → n - (v + 1) + (v + 1) ≡ n
rest_after v n l = omega (arith, l)

pub loop-other-init : goal.loop-other-init
loop-other-init g c = sym (kids_below_first (shape_parent c.args.raw.now.shapes) (shape_parent c.args.raw.now.shapes c.args.node))

pub overflow_add-place : goal.overflow_add-place
overflow_add-place g c =
    omega (arith, kids_below_most (shape_parent c.args.raw.now.shapes) (shape_parent c.args.raw.now.shapes c.args.node) c.loop-other.other)

pub loop-other-preserved : goal.loop-other-preserved
loop-other-preserved g c =
    let here = ap (λ s. s.parent) c.shape.ensures in
    let there = ap (λ s. s.parent) c.shape-in-loop-other.ensures in
    elim c.if-shape-parent.branch [
      | then-shape-parent w ↦
          let same : shape_parent c.args.raw.now.shapes c.loop-other.other ≡ shape_parent c.args.raw.now.shapes c.args.node =
          sym there ∙ w.if-shape-parent.true ∙ here in
          w.place-is ∙ ap (λ n. n + 1) c.loop-other.invariant
          ∙ sym (kids_below_child (shape_parent c.args.raw.now.shapes) (shape_parent c.args.raw.now.shapes c.args.node)
          c.loop-other.other (above_root _ _ c.loop-other.auto.other) same)
      | else-shape-parent w ↦
          let other : shape_parent c.args.raw.now.shapes c.loop-other.other ≢ shape_parent c.args.raw.now.shapes c.args.node =
          λ e. w.if-shape-parent.false (there ∙ e ∙ sym here) in
          w.place-is ∙ c.loop-other.invariant
          ∙ sym (kids_below_other (shape_parent c.args.raw.now.shapes) (shape_parent c.args.raw.now.shapes c.args.node)
          c.loop-other.other other)
    ]

pub returns : goal.returns
returns g c = record {
  place =
      let end : c.loop-other.other ≡ c.args.node =
      ended_some _ _ c.loop-other.auto.other-end c.loop-other-test.false c.requires.below_root in
      c.loop-other.invariant
      ∙ ap (kids_below (shape_parent c.args.raw.now.shapes) (shape_parent c.args.raw.now.shapes c.args.node)) end;
  within =
      let end : c.loop-other.other ≡ c.args.node =
      ended_some _ _ c.loop-other.auto.other-end c.loop-other-test.false c.requires.below_root in
      let kids = kids_below (shape_parent c.args.raw.now.shapes) (shape_parent c.args.raw.now.shapes c.args.node) in
      let rest = length c.args.raw.now.shapes - (c.args.node + 1) in
      less_of _ _ _ (c.loop-other.invariant ∙ ap kids end)
      (subst (λ n. kids c.args.node < kids n) (rest_after _ _ c.requires.node)
      (child_place_within (shape_parent c.args.raw.now.shapes) c.args.node rest c.requires.below_root));
  above = parents_first_lem c.args.raw.now c.nodes-nodes.ensures.formed.shaped c.args.node c.requires.below_root c.requires.node;
}
