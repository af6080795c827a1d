use Rattle.std.proofs.Common.{◌≡◌, ◌≢◌, ℕ, suc, ◌+◌, ◌-◌, ◌*◌, ◌<◌, ◌≤◌, List, length, map, get_or, sym, ap, subst, ◌∙◌, arith}
use Rattle.std.proofs.lemmas.List.{length-map}
use Rattle.tdp_model.specs.KeyTuple.{key_below, key_add, key_none}
use Rattle.tdp_model.proofs.KeyTuples.{tuple_keys}
use Rattle.rank_key.specs.Keys.{KeyFits}
use Rattle.tdp_core.specs.declared.parts.NodeParts.{NodeParts}
use Rattle.tdp_core.specs.TreeView.{best, group, node_at, node_view, parent, rank, rows, tree_view}
use Rattle.tdp_core.proofs.Children.{kids_below_child, kids_below_most, kids_below_other}
use Rattle.tdp_core.proofs.LoopCounts.{at_list, past_by, past_it, past_next}
use Rattle.tree_dp.specs.Orders.{joined_at, key_at}
use Rattle.tree_dp.proofs.FirstParts.{first_part, first_part_other}
use Rattle.tree_dp.proofs.JoinedBests.{all_steps, child_steps, group_there, joined_fits, no_child, none_joined, one_joined, place_there}
use Rattle.tree_dp.proofs.LaterNodes.{no_kids_yet}
use Rattle.tree_dp.proofs.NodeReads.{read_node}
use Rattle.tree_dp.proofs.bests.bests_of.Goals.{then-nodes-child, else-nodes-child}
use Rattle.tree_dp.proofs.bests.bests_of.Goals as goal

module _ {R : Type 0} (parts : List (NodeParts R)) (v : ℕ) (node : NodeParts R) (inside : v < length parts) (is : node ≡ get_or parts v node) where
  same_node : node_view node ≡ node_at (tree_view parts) v
  same_node = ap node_view is ∙ sym (read_node parts v node inside)

pub loop-child-init : goal.loop-child-init
loop-child-init g c =
    let d = g.R.Rank.KEYS in
    let key = g.R.Rank.key in
    let parts = c.args.nodes.now in
    let t = tree_view parts in
    let v = c.args.node in
    let node = c.index-nodes-node.result in
    let inside : v < length t = at_list _ _ _ c.requires.node (length-map parts node_view) in
    let ranks : c.in_ok-bests.bests.items ≡ map (λ x. x.rank) (node_at t v).rows =
    c.in_ok-bests.ensures.items ∙ c.ranks.ensures ∙ ap (λ n. map (λ x. x.rank) n.rows) (same_node parts v node c.requires.node c.index-nodes-node.is) in
    let zero : v + 1 - suc v ≡ 0 = omega arith in
    record {
      long = ap length ranks ∙ length-map (node_at t v).rows (λ x. x.rank);
      placed = sym (no_kids_yet (parent t) (length t) v v c.requires.laid_out.shaped.parents_first inside (omega arith));
      added = λ r h. none_joined d key t v r c.in_ok-bests.bests.items (v + 1 - suc v) ranks zero;
      counted = omega arith;
    }

pub add_leasts-requires-clause-children : goal.add_leasts-requires-clause-children
add_leasts-requires-clause-children g c = λ r h.
    let parts = c.args.nodes.now in
    let t = tree_view parts in
    let v = c.args.node in
    let q = c.loop-child.child in
    let up : v < length t = at_list _ _ _ c.requires.node (length-map parts node_view) in
    let inside : q < length t = at_list _ _ _ c.loop-child-test.true (length-map parts node_view) in
    let is : parent t q ≡ v = ap (λ n. n.shape.parent) (read_node parts q c.index-nodes-child.result c.loop-child-test.true) ∙ c.if-nodes-child.true in
    let names = ap (λ n. n.to_child) (same_node parts v c.index-nodes-node.result c.requires.node c.index-nodes-node.is) in
    place_there g.R.Rank.KEYS g.R.Rank.key t c.requires.laid_out v up c.args.leasts.now c.requires.leasts q (past_it _ _ c.loop-child.auto.child) inside is c.index-leasts-child.result c.index-leasts-child.is
    c.index-nodes-node.result.to_child.rows names c.loop-child.place c.loop-child.invariant.placed r (omega (arith, h, c.loop-child.invariant.long))

pub add_leasts-requires-clause-groups : goal.add_leasts-requires-clause-groups
add_leasts-requires-clause-groups g c = λ r h.
    let parts = c.args.nodes.now in
    let t = tree_view parts in
    let v = c.args.node in
    let q = c.loop-child.child in
    let up : v < length t = at_list _ _ _ c.requires.node (length-map parts node_view) in
    let inside : q < length t = at_list _ _ _ c.loop-child-test.true (length-map parts node_view) in
    let is : parent t q ≡ v = ap (λ n. n.shape.parent) (read_node parts q c.index-nodes-child.result c.loop-child-test.true) ∙ c.if-nodes-child.true in
    let names = ap (λ n. n.to_child) (same_node parts v c.index-nodes-node.result c.requires.node c.index-nodes-node.is) in
    let there = group_there g.R.Rank.KEYS g.R.Rank.key t c.requires.laid_out v up c.args.leasts.now c.requires.leasts q (past_it _ _ c.loop-child.auto.child) inside is c.index-leasts-child.result c.index-leasts-child.is
    c.index-nodes-node.result.to_child.rows names c.loop-child.place c.loop-child.invariant.placed r (omega (arith, h, c.loop-child.invariant.long)) in
    omega (arith, there, ap length c.as_slice-least.ensures.value)

pub add_leasts-requires-clause-fits : goal.add_leasts-requires-clause-fits
add_leasts-requires-clause-fits g c = λ r h.
    let d = g.R.Rank.KEYS in
    let key = g.R.Rank.key in
    let parts = c.args.nodes.now in
    let t = tree_view parts in
    let v = c.args.node in
    let q = c.loop-child.child in
    let up : v < length t = at_list _ _ _ c.requires.node (length-map parts node_view) in
    let inside : q < length t = at_list _ _ _ c.loop-child-test.true (length-map parts node_view) in
    let is : parent t q ≡ v = ap (λ n. n.shape.parent) (read_node parts q c.index-nodes-child.result c.loop-child-test.true) ∙ c.if-nodes-child.true in
    let names = ap (λ n. n.to_child) (same_node parts v c.index-nodes-node.result c.requires.node c.index-nodes-node.is) in
    let row : r < rows t v = omega (arith, h, c.loop-child.invariant.long) in
    let fits = joined_fits d key t c.requires.laid_out v up c.args.leasts.now c.requires.leasts q (past_it _ _ c.loop-child.auto.child) inside is c.index-leasts-child.result c.index-leasts-child.is
    c.index-nodes-node.result.to_child.rows names c.loop-child.place c.loop-child.invariant.placed r row c.requires.solved c.loop-child.bests.items (c.loop-child.invariant.added r row) in
    subst (λ ls. KeyFits d key (joined_at d key c.loop-child.bests.items c.index-nodes-node.result.to_child.rows c.loop-child.place ls r)) (sym c.as_slice-least.ensures.value) fits

pub overflow_add-place : goal.overflow_add-place
overflow_add-place g c =
    let t = tree_view c.args.nodes.now in
    omega (
      arith,
      c.loop-child.invariant.placed,
      kids_below_most (parent t) c.args.node c.loop-child.child,
      c.loop-child-test.true,
      length-map c.args.nodes.now node_view,
      c.requires.laid_out.shaped.few_nodes,
    )

pub loop-child-preserved : goal.loop-child-preserved
loop-child-preserved g c =
    let d = g.R.Rank.KEYS in
    let key = g.R.Rank.key in
    let parts = c.args.nodes.now in
    let t = tree_view parts in
    let v = c.args.node in
    let q = c.loop-child.child in
    let l = c.loop-child.invariant in
    let up : v < length t = at_list _ _ _ c.requires.node (length-map parts node_view) in
    let inside : q < length t = at_list _ _ _ c.loop-child-test.true (length-map parts node_view) in
    let later : v < q = past_it _ _ c.loop-child.auto.child in
    let at : parent t q ≡ (get_or parts q c.index-nodes-child.result).shape.parent = ap (λ n. n.shape.parent) (read_node parts q c.index-nodes-child.result c.loop-child-test.true) in
    let names = ap (λ n. n.to_child) (same_node parts v c.index-nodes-node.result c.requires.node c.index-nodes-node.is) in
    let more : q + 1 - suc v ≡ suc (q - suc v) = past_next _ _ c.loop-child.auto.child in
    let after : q ≡ suc v + (q - suc v) = past_by _ _ c.loop-child.auto.child in
    elim c.if-nodes-child.branch [
      | then-nodes-child w ↦
          let is : parent t q ≡ v = at ∙ w.if-nodes-child.true in
          let joined = w.add_leasts.ensures.joined in
          let long : length c.if-nodes-child.bests.items ≡ length c.loop-child.bests.items = ap (λ b. length b.items) w.bests-is ∙ w.add_leasts.ensures.count in
          record {
            long = long ∙ l.long;
            placed = w.place-is ∙ ap (λ z. z + 1) l.placed ∙ sym (kids_below_child (parent t) v q (omega (arith, later)) is);
            added = λ r row.
                let h : r < length c.loop-child.bests.items = omega (arith, row, l.long) in
                ap (λ b. key_at d key b.items r) w.bests-is ∙ joined r h
                ∙ ap (λ ls. joined_at d key c.loop-child.bests.items c.index-nodes-node.result.to_child.rows c.loop-child.place ls r) w.as_slice-least.ensures.value
                ∙ one_joined d key t c.requires.laid_out v up c.args.leasts.now c.requires.leasts q later inside is w.index-leasts-child.result w.index-leasts-child.is
                c.index-nodes-node.result.to_child.rows names c.loop-child.place l.placed r row c.loop-child.bests.items (l.added r row)
                ∙ ap (first_part (key_below d 16) (key_add d 16) (key_none d 16) (tuple_keys d 16) (length t) (parent t) (rank t d key) (group t) (best t d key) v r) (sym more);
            counted = subst (λ n. n ≤ c.args.steps.now + rows t v * (q + 1 - suc v)) (sym w.steps-is)
                (child_steps v q c.args.steps.now c.loop-child.steps w.add_leasts.new.steps (rows t v) (length c.loop-child.bests.items) later l.long l.counted w.add_leasts.ensures.cost);
          }
      | else-nodes-child w ↦
          let other : parent t q ≢ v = λ e. w.if-nodes-child.false (sym at ∙ e) in
          record {
            long = ap (λ b. length b.items) w.bests-is ∙ l.long;
            placed = w.place-is ∙ l.placed ∙ sym (kids_below_other (parent t) v q other);
            added = λ r row.
                ap (λ b. key_at d key b.items r) w.bests-is ∙ l.added r row
                ∙ sym (first_part_other (key_below d 16) (key_add d 16) (key_none d 16) (tuple_keys d 16) (length t) (parent t) (rank t d key) (group t) (best t d key) v r (q - suc v) q after other)
                ∙ ap (first_part (key_below d 16) (key_add d 16) (key_none d 16) (tuple_keys d 16) (length t) (parent t) (rank t d key) (group t) (best t d key) v r) (sym more);
            counted = subst (λ n. n ≤ c.args.steps.now + rows t v * (q + 1 - suc v)) (sym w.steps-is) (no_child v q c.args.steps.now c.loop-child.steps (rows t v) later l.counted);
          }
    ]

pub returns-clause-cost : goal.returns-clause-cost
returns-clause-cost g c =
    let parts = c.args.nodes.now in
    let few : c.loop-child.child ≤ length parts = omega (arith, c.loop-child.auto.child-end, c.requires.node) in
    all_steps c.args.node c.loop-child.child c.args.steps.now c.loop-child.steps (rows (tree_view parts) c.args.node) (length parts) few c.loop-child.invariant.counted
