use Rattle.std.proofs.Common.{◌≡◌, ℕ, ◌+◌, ◌*◌, ◌<◌, ◌≤◌, length, sym, ap, ◌∙◌, subst, arith}
use Rattle.std.proofs.lemmas.List.{length-map}
use Rattle.std.proofs.lemmas.Result.{IfOk-from_err}
use Rattle.tdp_model.proofs.Ranges.{times_small}
use Rattle.tdp_core.specs.TreeView.{node_view, tree_view, node_at, row_count}
use Rattle.tdp_core.specs.WellFormed.{IsLaidOut, IsFormed}
use Rattle.tree_dp.specs.SolvedTrees.{IsReordered, IsSolved}
use Rattle.tree_dp.proofs.Grouping.{items_written}
use Rattle.tree_dp.proofs.ReorderedNodes.{layout_kept, solved_of}
use Rattle.tree_dp.proofs.solving.solve.Goals as goal

-- where there is a node, a step for each row is no more than a step for each row and node
steps_within : (nodes rows before after : ℕ) → 0 < nodes → after ≤ before + rows * (nodes + 2) → after ≤ before + 4 * nodes * (1 + rows)
steps_within nodes rows before after some h = omega (arith, times_small 1 nodes rows (omega arith), h)

pub solve_nodes-requires : goal.solve_nodes-requires
solve_nodes-requires g c = record {
  laid_out =
      subst (λ ns. IsLaidOut g.R.Rank.KEYS g.R.Rank.key (tree_view ns)) (sym c.as_mut_slice.ensures.value)
      c.requires.laid_out;
}

pub from_parts-requires : goal.from_parts-requires
from_parts-requires g c =
    let d = g.R.Rank.KEYS in
    let key = g.R.Rank.key in
    let items = c.args.reduced.nodes.items in
    let new = c.solve_nodes.new.nodes in
    let long : length new ≡ length items = c.solve_nodes.auto.nodes ∙ ap length c.as_mut_slice.ensures.value in
    let count : length (tree_view new) ≡ length (tree_view items) = length-map new node_view ∙ long ∙ sym (length-map items node_view) in
    let nodes : (v : ℕ) → IsReordered (node_at (tree_view items) v) (node_at (tree_view new) v) =
    subst (λ ns. (v : ℕ) → IsReordered (node_at (tree_view ns) v) (node_at (tree_view new) v)) c.as_mut_slice.ensures.value c.in_ok-solve_nodes.ensures.reordered
    in
    let solved = c.in_ok-solve_nodes.ensures.solved in
    let built : IsFormed d key (tree_view new) = record {
      laid_out = layout_kept (tree_view items) (tree_view new) nodes d key count c.requires.laid_out;
      all_best = λ v l. solved.all_best v (omega arith) l;
      bests = λ v r l h. solved.bests v r (omega arith) l h;
      heaps = λ v n i l some h. solved.heaps v n i (omega arith) l some h;
    } in
    subst (λ ns. IsFormed d key (tree_view ns)) (sym (items_written c.args.reduced.nodes new long)) built

pub returns-in_err-solve_nodes : goal.returns-in_err-solve_nodes
returns-in_err-solve_nodes g c = record {
  solved = IfOk-from_err c.from_residual.result _ c.from_residual.ensures.0;
  cost = let items = c.args.reduced.nodes.items in
      let after = c.solve_nodes.new.steps in
      let some : 0 < length items = omega (arith, c.requires.shaped.some_node, length-map items node_view) in
      steps_within (length items) (row_count (tree_view items)) c.args.steps.now after some
      (subst (λ ns. after ≤ c.args.steps.now + row_count (tree_view ns) * (length ns + 2)) c.as_mut_slice.ensures.value c.solve_nodes.ensures.cost);
}

pub returns : goal.returns
returns g c = record {
  solved = let items = c.args.reduced.nodes.items in
      let new = c.solve_nodes.new.nodes in
      let long : length new ≡ length items = c.solve_nodes.auto.nodes ∙ ap length c.as_mut_slice.ensures.value in
      let count : length (tree_view new) ≡ length (tree_view items) = length-map new node_view ∙ long ∙ sym (length-map items node_view) in
      let nodes : (v : ℕ) → IsReordered (node_at (tree_view items) v) (node_at (tree_view new) v) =
      subst (λ ns. (v : ℕ) → IsReordered (node_at (tree_view ns) v) (node_at (tree_view new) v)) c.as_mut_slice.ensures.value c.in_ok-solve_nodes.ensures.reordered
      in
      subst (IsSolved (tree_view items)) (sym (c.from_parts.ensures ∙ ap tree_view (items_written c.args.reduced.nodes new long))) (solved_of (tree_view items) (tree_view new) count nodes);
  cost = let items = c.args.reduced.nodes.items in
      let after = c.solve_nodes.new.steps in
      let some : 0 < length items = omega (arith, c.requires.shaped.some_node, length-map items node_view) in
      steps_within (length items) (row_count (tree_view items)) c.args.steps.now after some
      (subst (λ ns. after ≤ c.args.steps.now + row_count (tree_view ns) * (length ns + 2)) c.as_mut_slice.ensures.value c.solve_nodes.ensures.cost);
}
