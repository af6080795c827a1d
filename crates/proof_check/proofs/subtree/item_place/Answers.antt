use Rattle.std.proofs.Common.{◌+◌, ◌<◌, length, sym, ap, ◌∙◌}
use Rattle.tdp_model.specs.TreeProblem.{sum_from}
use Rattle.bound_query.proofs.NodeSums.{sum_none}
use Rattle.proof_check.proofs.Subtrees.{before, below_small, place_more, place_same, place_within}
use Rattle.proof_check.proofs.Counts.{below_count, ended, few_added, few_fits, few_same, least_both, less_both, less_of, no_more}
use Rattle.proof_check.proofs.subtree.item_place.Goals as goal
use Rattle.proof_check.proofs.subtree.item_place.Goals.{then-shape-item, else-shape-item}

pub loop-other-init : goal.loop-other-init
loop-other-init g c = record {
  few = no_more 0;
  sum = λ v l are. sym (sum_none (before c.args.raw.now c.nodes-nodes.ensures.formed.shaped v c.args.node));
}

pub overflow_add-place : goal.overflow_add-place
overflow_add-place g c =
    let inside : c.loop-other.other < length c.args.raw.now.shapes = below_count _ _ _ c.loop-other-test.true c.nodes-nodes.ensures.count in
    let at = c.requires.below.2 c.loop-other.other inside in
    let small = below_small c.args.raw.now c.nodes-nodes.ensures.formed.shaped c.requires.below.0 c.loop-other.other inside in
    few_fits _ _ _ _ _ at small c.loop-other.invariant.few inside c.nodes-nodes.ensures.formed.shaped.few_nodes

pub loop-other-preserved : goal.loop-other-preserved
loop-other-preserved g c =
    let inside : c.loop-other.other < length c.args.raw.now.shapes = below_count _ _ _ c.loop-other-test.true c.nodes-nodes.ensures.count in
    let small = below_small c.args.raw.now c.nodes-nodes.ensures.formed.shaped c.requires.below.0 c.loop-other.other inside in
    let here = ap (λ s. s.item) c.shape.ensures in
    let there = ap (λ s. s.item) c.shape-in-loop-other.ensures in
    elim c.if-shape-item.branch [
      | then-shape-item w ↦ record {
        few = few_added _ _ _ _ _ w.place-is (c.requires.below.2 c.loop-other.other inside) small c.loop-other.invariant.few;
        sum = λ v l are. w.place-is
            ∙ place_more c.args.raw.now c.nodes-nodes.ensures.formed.shaped v c.args.node c.loop-other.other c.loop-other.place
            c.args.below.now are inside (less_both _ _ _ _ there here w.if-shape-item.true) (c.loop-other.invariant.sum v l are);
      }
      | else-shape-item w ↦ record {
        few = few_same _ _ _ w.place-is c.loop-other.invariant.few;
        sum = λ v l are. w.place-is
            ∙ place_same c.args.raw.now c.nodes-nodes.ensures.formed.shaped v c.args.node c.loop-other.other c.loop-other.place
            (least_both _ _ _ _ here there w.if-shape-item.false) (c.loop-other.invariant.sum v l are);
      }
    ]

pub returns : goal.returns
returns g c = record {
  place = λ v l are.
      let end = ended _ _ c.loop-other.auto.other-end c.loop-other-test.false ∙ c.nodes-nodes.ensures.count in
      c.loop-other.invariant.sum v l are
      ∙ ap (λ n. sum_from ◌+◌ 0 (before c.args.raw.now c.nodes-nodes.ensures.formed.shaped v c.args.node) n 0) end;
  within = λ v l are some.
      let end = ended _ _ c.loop-other.auto.other-end c.loop-other-test.false ∙ c.nodes-nodes.ensures.count in
      let place = c.loop-other.invariant.sum v l are
      ∙ ap (λ n. sum_from ◌+◌ 0 (before c.args.raw.now c.nodes-nodes.ensures.formed.shaped v c.args.node) n 0) end in
      less_of _ _ _ place (place_within c.args.raw.now c.nodes-nodes.ensures.formed.shaped v c.args.node c.requires.node some);
}
