use Rattle.std.proofs.Common.{◌≡◌, ℕ, ◌+◌, ◌-◌, ◌<◌, ◌≤◌, List, ◌∷◌, length, map, sym, ap, subst, ◌∙◌, arith}
use Rattle.std.proofs.lemmas.List.{length-map}
use Rattle.std.proofs.lemmas.Result.{IfOk-from_err}
use Rattle.tdp_model.specs.KeyTuple.{KeyOf}
use Rattle.tdp_core.specs.TreeView.{NodeView, node_view, tree_view, node_at, rows}
use Rattle.tree_dp.specs.Progress.{IsSolvedFrom, AreLeastsFrom}
use Rattle.tree_dp.proofs.ReorderedNodes.{reordered_refl, reordered_trans, rows_same, layout_kept}
use Rattle.tree_dp.proofs.RowTotals.{row_steps, row_steps_most}
use Rattle.tree_dp.proofs.solving.solve_nodes.Goals as goal

module _ {R : Type 0} (d : ℕ) (key : R → KeyOf d 16) (t : List (NodeView R)) (n : ℕ) (past : length t ≤ n) where
  -- the nodes past the last one are solved
  solved_past : IsSolvedFrom d key t n
  solved_past = record {
    all_best = λ v l h. absurd (omega arith);
    bests = λ v r l h k. absurd (omega arith);
    heaps = λ v g i l h. absurd (omega arith);
  }

  leasts_past : (leasts : List (List R)) → length leasts + n ≡ length t → AreLeastsFrom d key t n leasts
  leasts_past leasts all = record {
    all_nodes = all;
    all_groups = λ v l h. absurd (omega arith);
    firsts = λ v g l h k. absurd (omega arith);
  }

pub loop-node-init : goal.loop-node-init
loop-node-init g c =
    let d = g.R.Rank.KEYS in
    let key = g.R.Rank.key in
    let parts = c.args.nodes.now in
    let t = tree_view parts in
    let whole : length t ≡ length parts = length-map parts node_view in
    let past : length t ≤ length parts = omega arith in
    let none = c.new-leasts.result.items in
    record {
      reordered = λ v. reordered_refl (node_at t v);
      solved = solved_past d key t (length parts) past;
      leasts = leasts_past d key t (length parts) past (map (λ ls. ls.items) none) (omega (arith, whole, length-map none (λ ls. ls.items), ap length c.new-leasts.ensures.items));
      counted = omega arith;
    }

pub solve_node-requires-clause-laid_out : goal.solve_node-requires-clause-laid_out
solve_node-requires-clause-laid_out g c =
    let before = tree_view c.args.nodes.now in
    let now = tree_view c.loop-node.nodes in
    layout_kept before now c.loop-node.invariant.reordered g.R.Rank.KEYS g.R.Rank.key (length-map c.loop-node.nodes node_view ∙ c.loop-node.auto.nodes ∙ sym (length-map c.args.nodes.now node_view)) c.requires.laid_out

pub solve_node-requires-clause-leasts : goal.solve_node-requires-clause-leasts
solve_node-requires-clause-leasts g c =
    let d = g.R.Rank.KEYS in
    let key = g.R.Rank.key in
    let now = tree_view c.loop-node.nodes in
    let next : c.loop-node.node ≡ c.loop-node.node - 1 + 1 = omega arith in
    subst (λ vs. AreLeastsFrom d key now (c.loop-node.node - 1 + 1) (map (λ ls. ls.items) vs)) (sym c.deref.ensures.value)
    (subst (λ v. AreLeastsFrom d key now v (map (λ ls. ls.items) c.loop-node.leasts.items)) next c.loop-node.invariant.leasts)

pub loop-node-preserved : goal.loop-node-preserved
loop-node-preserved g c =
    let d = g.R.Rank.KEYS in
    let key = g.R.Rank.key in
    let before = tree_view c.args.nodes.now in
    let now = tree_view c.loop-node.nodes in
    let then = tree_view c.solve_node.new.nodes in
    let v = c.loop-node.node in
    let some : 0 < v = c.loop-node-test.true in
    let inside : v ≤ length before = omega (arith, c.loop-node.auto.node, length-map c.args.nodes.now node_view) in
    let here : rows now (v - 1) ≡ rows before (v - 1) = ap (λ f. f (v - 1)) (rows_same before now c.loop-node.invariant.reordered) in
    record {
      reordered = λ w. reordered_trans (node_at before w) (node_at now w) (node_at (tree_view c.solve_node.new.nodes) w) (c.loop-node.invariant.reordered w) (c.in_ok-own.ensures.reordered w);
      solved = c.in_ok-own.ensures.solved;
      leasts =
          subst (λ vs. AreLeastsFrom d key then (v - 1) (map (λ ls. ls.items) vs)) (sym c.in_ok-insert.ensures.items)
          (subst (λ vs. AreLeastsFrom d key then (v - 1) (c.in_ok-own.own.items ∷ map (λ ls. ls.items) vs)) c.deref.ensures.value c.in_ok-own.ensures.leasts);
      counted = row_steps (rows before) (length before) v (rows now (v - 1)) (length c.loop-node.nodes) (length c.args.nodes.now) c.args.steps.now c.loop-node.steps c.solve_node.new.steps some inside here c.loop-node.auto.nodes
          c.loop-node.invariant.counted c.solve_node.ensures.cost;
    }

pub solve_node-requires-clause-solved : goal.solve_node-requires-clause-solved
solve_node-requires-clause-solved g c =
    let next : c.loop-node.node ≡ c.loop-node.node - 1 + 1 = omega arith in
    subst (IsSolvedFrom g.R.Rank.KEYS g.R.Rank.key (tree_view c.loop-node.nodes)) next c.loop-node.invariant.solved

pub returns-in_err-own : goal.returns-in_err-own
returns-in_err-own g c = record {
  reordered = IfOk-from_err c.from_residual.result _ c.from_residual.ensures.0;
  solved = IfOk-from_err c.from_residual.result _ c.from_residual.ensures.0;
  cost = let before = tree_view c.args.nodes.now in
      let now = tree_view c.loop-node.nodes in
      let v = c.loop-node.node in
      let long = length c.args.nodes.now + 2 in
      let some : 0 < v = c.loop-node-test.true in
      let inside : v ≤ length before = omega (arith, c.loop-node.auto.node, length-map c.args.nodes.now node_view) in
      let here : rows now (v - 1) ≡ rows before (v - 1) = ap (λ f. f (v - 1)) (rows_same before now c.loop-node.invariant.reordered) in
      let steps = row_steps (rows before) (length before) v (rows now (v - 1)) (length c.loop-node.nodes) (length c.args.nodes.now) c.args.steps.now c.loop-node.steps c.solve_node.new.steps some inside here
      c.loop-node.auto.nodes c.loop-node.invariant.counted c.solve_node.ensures.cost in
      row_steps_most (rows before) (length before) (v - 1) long c.args.steps.now c.solve_node.new.steps (omega arith) steps;
}

pub returns-in_err-insert : goal.returns-in_err-insert
returns-in_err-insert g c = record {
  reordered = IfOk-from_err c.from_residual-in_err-insert.result _ c.from_residual-in_err-insert.ensures.0;
  solved = IfOk-from_err c.from_residual-in_err-insert.result _ c.from_residual-in_err-insert.ensures.0;
  cost = let before = tree_view c.args.nodes.now in
      let now = tree_view c.loop-node.nodes in
      let v = c.loop-node.node in
      let long = length c.args.nodes.now + 2 in
      let some : 0 < v = c.loop-node-test.true in
      let inside : v ≤ length before = omega (arith, c.loop-node.auto.node, length-map c.args.nodes.now node_view) in
      let here : rows now (v - 1) ≡ rows before (v - 1) = ap (λ f. f (v - 1)) (rows_same before now c.loop-node.invariant.reordered) in
      let steps = row_steps (rows before) (length before) v (rows now (v - 1)) (length c.loop-node.nodes) (length c.args.nodes.now) c.args.steps.now c.loop-node.steps c.solve_node.new.steps some inside here
      c.loop-node.auto.nodes c.loop-node.invariant.counted c.solve_node.ensures.cost in
      row_steps_most (rows before) (length before) (v - 1) long c.args.steps.now c.solve_node.new.steps (omega arith) steps;
}

pub returns : goal.returns
returns g c = record {
  reordered = c.loop-node.invariant.reordered;
  solved = let end : c.loop-node.node ≡ 0 = omega arith in
      subst (IsSolvedFrom g.R.Rank.KEYS g.R.Rank.key (tree_view c.loop-node.nodes)) end c.loop-node.invariant.solved;
  cost = let before = tree_view c.args.nodes.now in
      row_steps_most (rows before) (length before) c.loop-node.node (length c.args.nodes.now + 2) c.args.steps.now c.loop-node.steps (omega arith) c.loop-node.invariant.counted;
}
