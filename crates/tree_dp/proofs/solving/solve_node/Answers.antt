use Rattle.std.proofs.Common.{◌≡◌, ℕ, ◌+◌, ◌*◌, ◌<◌, ◌≤◌, [], All, length, map, get_or, refl, sym, ap, subst, ◌∙◌, arith}
use Rattle.std.proofs.Math.ListN.{set}
use Rattle.std.specs.List.{concat}
use Rattle.std.proofs.lemmas.List.{length-map, length-set}
use Rattle.std.proofs.lemmas.Result.{IfOk-from_err}
use Rattle.std.proofs.lemmas.List.Elements.{All-from_get_or}
use Rattle.tdp_model.specs.KeyTuple.{key_none}
use Rattle.tdp_core.specs.TreeView.{node_view, tree_view, node_at, rows, members}
use Rattle.tree_dp.specs.Orders.{key_at, IsHeapOver}
use Rattle.tree_dp.specs.SolvedTrees.{IsReordered}
use Rattle.tree_dp.proofs.LaterNodes.{member_row, members_total}
use Rattle.tree_dp.proofs.Leasts.{leasts_next}
use Rattle.tdp_core.proofs.LoopCounts.{at_list, below_count}
use Rattle.tree_dp.proofs.NodeReads.{read_node, written_here, written_elsewhere, written_reordered}
use Rattle.tree_dp.proofs.NodeSolved.{solved_next}
use Rattle.tree_dp.proofs.solving.solve_node.Goals as goal

best_steps : (start best rows nodes : ℕ) → best ≤ start + rows * nodes → best ≤ start + rows * (nodes + 2)
best_steps start best rows nodes h = omega (arith, h)

solved_steps : (start best after rows members nodes : ℕ) → best ≤ start + rows * nodes → after ≤ best + 2 * members → members ≡ rows
    → after ≤ start + rows * (nodes + 2)
solved_steps start best after rows members nodes h k e = omega (arith, h, k, e)

pub order_groups-requires-clause-rows : goal.order_groups-requires-clause-rows
order_groups-requires-clause-rows g c =
    let parts = c.args.nodes.now in
    let t = tree_view parts in
    let v = c.args.node in
    let inside : v < length t = at_list _ _ _ c.requires.node (length-map parts node_view) in
    let groups : (node_at t v).groups ≡ (get_or parts v c.index-nodes-node.result).groups = ap (λ n. n.groups) (read_node parts v c.index-nodes-node.result c.requires.node) in
    let count : rows t v ≡ length c.as_slice.result.now = sym c.in_ok-best.ensures.count ∙ ap length (sym c.as_slice.ensures.value) in
    λ n. subst (λ gs. All (λ r. r < length c.as_slice.result.now) (get_or gs n [])) groups
    (All-from_get_or (λ r. r < length c.as_slice.result.now) (members t v n) 0
    (λ i l. below_count _ _ _ (member_row g.R.Rank.KEYS g.R.Rank.key t c.requires.laid_out v n i inside l) count))

pub order_groups-requires-clause-inhabited : goal.order_groups-requires-clause-inhabited
order_groups-requires-clause-inhabited g c =
    let parts = c.args.nodes.now in
    let t = tree_view parts in
    let v = c.args.node in
    let inside : v < length t = at_list _ _ _ c.requires.node (length-map parts node_view) in
    let groups : (node_at t v).groups ≡ (get_or parts v c.index-nodes-node.result).groups = ap (λ n. n.groups) (read_node parts v c.index-nodes-node.result c.requires.node) in
    subst (λ gs. (n : ℕ) → n < length gs → 0 < length (get_or gs n [])) groups (λ n l. c.requires.laid_out.inhabited v n inside l)

pub returns-in_err-best : goal.returns-in_err-best
returns-in_err-best g c =
    record {
      reordered = IfOk-from_err c.from_residual.result _ c.from_residual.ensures.0;
      solved = IfOk-from_err c.from_residual.result _ c.from_residual.ensures.0;
      leasts = IfOk-from_err c.from_residual.result _ c.from_residual.ensures.0;
      cost = best_steps c.args.steps.now c.bests_of.new.steps _ (length c.args.nodes.now) c.bests_of.ensures.cost;
    }

pub returns-in_err-own : goal.returns-in_err-own
returns-in_err-own g c =
    let parts = c.args.nodes.now in
    let t = tree_view parts in
    let v = c.args.node in
    let inside : v < length t = at_list _ _ _ c.requires.node (length-map parts node_view) in
    let groups : (node_at t v).groups ≡ (get_or parts v c.index-nodes-node.result).groups = ap (λ n. n.groups) (read_node parts v c.index-nodes-node.result c.requires.node) in
    record {
      reordered = IfOk-from_err c.from_residual-in_err-own.result _ c.from_residual-in_err-own.ensures.0;
      solved = IfOk-from_err c.from_residual-in_err-own.result _ c.from_residual-in_err-own.ensures.0;
      leasts = IfOk-from_err c.from_residual-in_err-own.result _ c.from_residual-in_err-own.ensures.0;
      cost = solved_steps c.args.steps.now c.bests_of.new.steps c.order_groups.new.steps (rows t v) _ (length parts) c.bests_of.ensures.cost c.order_groups.ensures.cost
          (sym (ap (λ gs. length (concat gs)) groups) ∙ members_total g.R.Rank.KEYS g.R.Rank.key t c.requires.laid_out v inside);
    }

pub returns : goal.returns
returns g c =
    let d = g.R.Rank.KEYS in
    let key = g.R.Rank.key in
    let parts = c.args.nodes.now in
    let t = tree_view parts in
    let v = c.args.node in
    let inside : v < length t = at_list _ _ _ c.requires.node (length-map parts node_view) in
    let old = get_or parts v c.index-nodes-node.result in
    let groups = c.order_groups.new.groups in
    let best = c.in_ok-best.best in
    let new = record old { groups = groups; best = best } in
    let u = tree_view (set parts v new) in
    let own = c.in_ok-own.own in
    let here : node_at u v ≡ node_view new = written_here parts v new c.requires.node in
    let count : length u ≡ length t = length-map (set parts v new) node_view ∙ length-set parts v new ∙ sym (length-map parts node_view) in
    let same : IsReordered (node_view old) (node_view new) = record {
      shape = refl;
      rows = refl;
      to_child = refl;
      group_count = c.in_ok-own.ensures.group_count;
      groups = c.in_ok-own.ensures.same_rows;
    } in
    let reordered = written_reordered parts v new c.index-nodes-node.result c.requires.node same in
    let heaps : (n : ℕ) → IsHeapOver d key best.items (get_or groups n []) =
    λ n. subst (λ bs. IsHeapOver d key bs (get_or groups n [])) c.as_slice.ensures.value (c.in_ok-own.ensures.heaps n)
    in
    let long : length own.items ≡ length new.groups = c.in_ok-own.ensures.least_count ∙ sym c.in_ok-own.ensures.group_count in
    let before : (node_at t v).groups ≡ old.groups = ap (λ n. n.groups) (read_node parts v c.index-nodes-node.result c.requires.node) in
    record {
      reordered = reordered;
      solved = solved_next d key t u v count reordered (written_elsewhere parts v new) c.requires.solved
          (ap (λ n. length n.best) here ∙ c.in_ok-best.ensures.count)
          (λ r l. ap (λ n. get_or (map key n.best) r (key_none d 16)) here ∙ c.in_ok-best.ensures.bests r l)
          (λ n. subst (λ x. IsHeapOver d key x.best (get_or x.groups n [])) (sym here) (heaps n));
      leasts = leasts_next d key t u v own.items (map (λ ls. ls.items) c.args.leasts.now) count (written_elsewhere parts v new) inside c.requires.leasts (long ∙ ap (λ n. length n.groups) (sym here))
          (λ n l.
          subst (λ x. key_at d key own.items n ≡ key_at d key x.best (get_or (get_or x.groups n []) 0 0)) (sym here)
          (c.in_ok-own.ensures.leasts n (omega (arith, l, ap (λ x. length x.groups) here, c.in_ok-own.ensures.group_count)) ∙ ap (λ bs. key_at d key bs (get_or (get_or new.groups n []) 0 0)) c.as_slice.ensures.value));
      cost = solved_steps c.args.steps.now c.bests_of.new.steps c.order_groups.new.steps (rows t v) _ (length parts) c.bests_of.ensures.cost c.order_groups.ensures.cost
          (sym (ap (λ gs. length (concat gs)) before) ∙ members_total d key t c.requires.laid_out v inside);
    }
