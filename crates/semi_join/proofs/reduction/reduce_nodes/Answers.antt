use Rattle.std.proofs.Common.{◌≡◌, ◌+◌, ◌-◌, ◌*◌, ◌<◌, ◌≤◌, ◌∷◌, [], drop, map, length, sym, ap, subst, ◌∙◌, refl, arith}
use Rattle.std.specs.List.{sum_by}
use Rattle.std.proofs.lemmas.List.{get_or-set_other}
use Rattle.tdp_core.specs.RawView.{IsRawFormed, RawView, rows_at}
use Rattle.tdp_core.specs.TreeView.{node_view}
use Rattle.tdp_core.proofs.RawFacts.{formed_without}
use Rattle.semi_join.specs.Reduction.{links_of, IsReducedNode, AreFew, group_links}
use Rattle.tdp_core.proofs.LoopCounts.{at_list}
use Rattle.semi_join.proofs.FromLast.{links_last, AreReducedLast}
use Rattle.semi_join.proofs.FromLast.{count_down, few_more, few_none, from_more, from_none, less_apart, less_before, links_more, links_none, step_down, steps_few, steps_more}
use Rattle.semi_join.proofs.SameRows.{links_same, reduced_same, steps_same}
use Rattle.semi_join.proofs.WholeReduction.{whole_reduction}
use Rattle.semi_join.proofs.Handed.{failed}
use Rattle.semi_join.proofs.reduction.reduce_nodes.Given.{Over}
use Rattle.semi_join.proofs.reduction.reduce_nodes.Goals.{After-reduce_node}
use Rattle.semi_join.proofs.reduction.reduce_nodes.Goals as goal

module _ (g : Over) where
  -- the steps after one node more
  counted_more : (c : After-reduce_node g) → c.reduce_node.new.steps ≤ c.args.steps.now + sum_by length (drop (c.loop-node.node - 1) c.args.tree.now.rows) * length c.args.tree.now.shapes
  counted_more c =
      let raw = c.args.tree.now in
      let v = c.loop-node.node - 1 in
      let at = step_down c.loop-node.node (length c.loop-node.later.items) (length raw.shapes) c.loop-node-test.true c.loop-node.invariant.count in
      let less : v < length raw.rows = at_list _ _ _ at.below c.nodes-node.ensures.formed.each_node in
      let one = steps_same v [] c.loop-node.tree raw c.loop-node.invariant.shapes (c.loop-node.invariant.rows v at.first) c.loop-node.steps c.reduce_node.new.steps c.reduce_node.ensures.cost in
      steps_more raw.rows v c.loop-node.node (length raw.shapes) c.args.steps.now c.loop-node.steps c.reduce_node.new.steps less at.is c.loop-node.invariant.counted one

  counted_few : (c : After-reduce_node g) → c.reduce_node.new.steps ≤ c.args.steps.now + 2 * length c.args.tree.now.shapes * (1 + sum_by length c.args.tree.now.rows)
  counted_few c = steps_few c.args.tree.now.rows (c.loop-node.node - 1) (length c.args.tree.now.shapes) c.args.steps.now c.reduce_node.new.steps (counted_more c)

pub returns-in_err-grouped : goal.returns-in_err-grouped
returns-in_err-grouped g c = record {
  reduced = failed c.from_residual.result _ c.from_residual.ensures.0;
  cost = counted_few g (goal.at.returns-in_err-grouped g c).After-reduce_node;
}

pub returns-in_err-insert : goal.returns-in_err-insert
returns-in_err-insert g c = record {
  reduced = failed c.from_residual-in_err-insert.result _ c.from_residual-in_err-insert.ensures.0;
  cost = counted_few g (goal.at.returns-in_err-insert g c).After-reduce_node;
}

pub returns-in_err-insert-2 : goal.returns-in_err-insert-2
returns-in_err-insert-2 g c = record {
  reduced = failed c.from_residual-in_err-insert-2.result _ c.from_residual-in_err-insert-2.ensures.0;
  cost = counted_few g (goal.at.returns-in_err-insert-2 g c).After-reduce_node;
}

pub loop-node-preserved : goal.loop-node-preserved
loop-node-preserved g c =
    let raw = c.args.tree.now in
    let tree = c.loop-node.tree in
    let v = c.loop-node.node - 1 in
    let before = c.loop-node.invariant in
    let nodes = ap length before.shapes in
    let some : 0 < c.loop-node.node = c.loop-node-test.true in
    let at = step_down c.loop-node.node (length c.loop-node.later.items) (length raw.shapes) some before.count in
    let here : v < length tree.shapes = at_list _ _ _ at.below nodes in
    let same = before.rows v at.first in
    let later = map links_of c.loop-node.later.items in
    let part = node_view c.in_ok-grouped.grouped.parts in
    let links = links_of c.in_ok-grouped.grouped.links in
    let found = subst (λ l. IsReducedNode tree v (map links_of l) part) c.deref.ensures.value c.in_ok-grouped.ensures.reduced in
    let reduced = subst (λ l. IsReducedNode raw v l part) before.links (reduced_same v later tree raw before.shapes same part found) in
    let keys : links ≡ group_links raw v later = c.in_ok-grouped.ensures.links ∙ ap (λ l. group_links tree v (map links_of l)) c.deref.ensures.value ∙ links_same v later tree raw before.shapes same in
    record {
      formed = subst (IsRawFormed g.R.Rank.KEYS g.R.Rank.key) (sym c.in_ok-grouped.ensures.rest) (formed_without g.R.Rank.KEYS g.R.Rank.key tree v before.formed here);
      shapes = ap (λ (t : RawView g.row.R.Denot). t.shapes) c.in_ok-grouped.ensures.rest ∙ before.shapes;
      rows = λ u h.
          ap (λ (t : RawView g.row.R.Denot). rows_at t u) c.in_ok-grouped.ensures.rest ∙ get_or-set_other tree.rows v u [] [] (less_apart u v h) ∙ before.rows u (less_before u c.loop-node.node h);
      reduced =
          subst (λ ps. AreReducedLast raw (length raw.shapes - v) (map node_view ps)) (sym c.in_ok-insert.ensures.items)
          (subst (λ n. AreReducedLast raw n (part ∷ map node_view c.loop-node.nodes.items)) at.more
          (from_more raw (length raw.shapes - c.loop-node.node) v part (map node_view c.loop-node.nodes.items) at.sum before.reduced reduced));
      links =
          ap (map links_of) c.in_ok-insert-2.ensures.items
          ∙ links_more raw (length raw.shapes - c.loop-node.node) v links later at.sum before.links keys
          ∙ ap (links_last raw) at.more;
      few = subst (λ ls. AreFew (map links_of ls)) (sym c.in_ok-insert-2.ensures.items) (few_more links later c.in_ok-grouped.ensures.few before.few);
      count = count_down c.loop-node.node (length c.loop-node.later.items) _ (length raw.shapes) some before.count (ap length c.in_ok-insert-2.ensures.items);
      counted = counted_more g (goal.at.loop-node-preserved g c).After-reduce_node;
    }

pub returns : goal.returns
returns g c = record {
  reduced = let all : length c.args.tree.now.shapes - c.loop-node.node ≡ length c.args.tree.now.shapes = omega arith in
      whole_reduction g.R.Rank.KEYS g.R.Rank.key c.args.tree.now (map node_view c.loop-node.nodes.items) c.nodes-node.ensures.formed
      (subst (λ n. AreReducedLast c.args.tree.now n (map node_view c.loop-node.nodes.items)) all c.loop-node.invariant.reduced);
  cost = let raw = c.args.tree.now in
      steps_few raw.rows c.loop-node.node (length raw.shapes) c.args.steps.now c.loop-node.steps c.loop-node.invariant.counted;
}

pub loop-node-init : goal.loop-node-init
loop-node-init g c =
    let raw = c.args.tree.now in
    let all = c.nodes-node.ensures.count in
    let no_links = ap (map links_of) c.requires.later in
    record {
      formed = c.nodes-node.ensures.formed;
      shapes = refl;
      rows = λ v h. refl;
      reduced = from_none raw c.nodes-node.result (map node_view c.args.nodes.now.items) all (ap (map node_view) c.requires.nodes);
      links = links_none raw c.nodes-node.result (map links_of c.args.later.now.items) all no_links;
      few = few_none (map links_of c.args.later.now.items) no_links;
      count = omega (arith, all, ap length c.requires.later);
      counted = omega arith;
    }

pub reduce_node-requires-clause-node : goal.reduce_node-requires-clause-node
reduce_node-requires-clause-node g c =
    let nodes = ap length c.loop-node.invariant.shapes in
    omega (arith, c.loop-node.invariant.count, nodes)

pub reduce_node-requires-clause-later : goal.reduce_node-requires-clause-later
reduce_node-requires-clause-later g c =
    let formed = c.loop-node.invariant.formed in
    let nodes = ap length c.loop-node.invariant.shapes in
    record {
      shaped = formed.shaped;
      few_rows = formed.few_rows;
      count = omega (arith, c.loop-node.invariant.count, nodes, ap length c.deref.ensures.value);
      few = subst (λ ls. AreFew (map links_of ls)) (sym c.deref.ensures.value) c.loop-node.invariant.few;
    }
