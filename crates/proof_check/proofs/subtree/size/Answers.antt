use Rattle.std.proofs.Common.{◌+◌, ◌<◌, length, refl, sym, ap, ◌∙◌}
use Rattle.tdp_model.specs.TreeProblem.{sum_from}
use Rattle.proof_check.specs.Subtrees.{raw_below}
use Rattle.bound_query.proofs.NodeSums.{sum_none}
use Rattle.proof_check.proofs.Subtrees.{below_small, size_more}
use Rattle.proof_check.proofs.Counts.{below_count, ended, few_added, few_fits, no_more}
use Rattle.proof_check.proofs.subtree.size.Goals as goal

pub loop-node-init : goal.loop-node-init
loop-node-init g c = record { few = no_more 0; sum = λ v l are. sym (sum_none (raw_below c.args.raw.now v)) }

pub overflow_add-size : goal.overflow_add-size
overflow_add-size g c =
    let inside : c.loop-node.node < length c.args.raw.now.shapes = below_count _ _ _ c.loop-node-test.true c.nodes-nodes.ensures.count in
    let at = c.requires.2 c.loop-node.node inside in
    let small = below_small c.args.raw.now c.nodes-nodes.ensures.formed.shaped c.requires.0 c.loop-node.node inside in
    few_fits _ _ _ _ _ at small c.loop-node.invariant.few inside c.nodes-nodes.ensures.formed.shaped.few_nodes

pub loop-node-preserved : goal.loop-node-preserved
loop-node-preserved g c =
    let inside : c.loop-node.node < length c.args.raw.now.shapes = below_count _ _ _ c.loop-node-test.true c.nodes-nodes.ensures.count in
    let small = below_small c.args.raw.now c.nodes-nodes.ensures.formed.shaped c.requires.0 c.loop-node.node inside in
    record {
      few = few_added _ _ _ _ _ refl (c.requires.2 c.loop-node.node inside) small c.loop-node.invariant.few;
      sum = λ v l are.
          size_more c.args.raw.now c.nodes-nodes.ensures.formed.shaped v c.loop-node.node c.loop-node.size c.args.below.now are inside
          (c.loop-node.invariant.sum v l are);
    }

pub returns : goal.returns
returns g c = λ v l are.
    let end = ended _ _ c.loop-node.auto.node-end c.loop-node-test.false ∙ c.nodes-nodes.ensures.count in
    c.loop-node.invariant.sum v l are ∙ ap (λ n. sum_from ◌+◌ 0 (raw_below c.args.raw.now v) n 0) end
