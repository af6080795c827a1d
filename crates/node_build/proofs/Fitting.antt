-- A row of a node fits the node's shape.
use Rattle.std.proofs.Common.{◌≡◌, ◌<◌, ◌≤◌, ◌+◌, ℕ, pos, unsigned_abs, nat_lt, false, List, [], length, get_or, sym, ap, subst, ◌∙◌, inl, inr, arith}
use Rattle.std.proofs.lemmas.Bool.{cases_lt, cond-true, lt-ltb}
use Rattle.std.proofs.lemmas.List.{get_or-map, get_or_past, length-map}
use Rattle.tdp_model.specs.KeyTuple.{KeyOf}
use Rattle.tdp_model.specs.TreeProblem.{sum_from}
use Rattle.rank_key.specs.Keys.{IsHeld, IsInLimits, row_key}
use Rattle.rank_key.proofs.RowKeys.{row_held}
use Rattle.tdp_core.specs.declared.parts.NodeShape.{NodeShape}
use Rattle.tdp_core.specs.RawView.{shape_cap, shape_children, shape_item, shape_parent}
use Rattle.tdp_core.specs.TreeView.{kids_below}
use Rattle.tdp_core.specs.WellFormed.{RowFits}
use Rattle.tdp_core.proofs.RowKeys.{row_key_fits}
use Rattle.join_tree.specs.declared.tree.JoinTree.{JoinTree}
use Rattle.anyk_model.specs.Table.{Table}
use Rattle.bound_query.specs.WeighedQuery.{BoundQuery}
use Rattle.bound_query.specs.Weights.{cap_of, key_at, part_of}
use Rattle.bound_query.proofs.Parts.{part_capped}
use Rattle.bound_query.proofs.NodeSums.{fewer_nodes, over}
use Rattle.node_build.specs.Nodes.{CapsBelow, cap_at, item_of, parent_of, row_parts}
use Rattle.node_build.specs.Shapes.{AreShapesOf}
use Rattle.node_build.proofs.Naming.{kids_ap}

one_term : (f : ℕ → ℕ) (item : ℕ) → sum_from ◌+◌ 0 (λ v. f item) 1 0 ≡ f item
unfolding sum_from
one_term f item = omega arith

-- a term of a sum over all items
one_of_all : (f : ℕ → ℕ) (n item : ℕ) → item < n → f item ≤ over f n
one_of_all f n item known =
    let fewer = fewer_nodes n (λ v. item) 1 f (record { within = λ v a b. known; differ = λ u v a b c. absurd (omega (arith, b, c)) }) in
    let one = one_term f item in
    omega (arith, fewer, one)

module _ (bound : BoundQuery) (tables : List Table) where
  cap_there : (item key : ℕ) → key < length bound.query.order → cap_at bound tables item key ≡ cap_of tables bound.query.items item (key_at bound.query.order key)
  cap_there item key l = cond-true (nat_lt key (length bound.query.order)) (cap_of tables bound.query.items item (key_at bound.query.order key)) 0 (lt-ltb key (length bound.query.order) l)

  part_small : (item row i : ℕ) → unsigned_abs (get_or (row_parts bound tables item row) i (pos 0)) ≤ cap_at bound tables item i
  part_small item row i = elim (cases_lt i (length bound.query.order)) [
    | inl l ↦
        let key = key_at bound.query.order i in
        let at : get_or (row_parts bound tables item row) i (pos 0) ≡ part_of tables bound.query.items item row key =
        get_or-map (part_of tables bound.query.items item row) bound.query.order i (record { terms = []; descending = false }) (pos 0) l in
        let cap = cap_there item i l in
        let small : unsigned_abs (part_of tables bound.query.items item row key) ≤ cap_of tables bound.query.items item key = part_capped tables bound.query.items row item key in
        let same : unsigned_abs (get_or (row_parts bound tables item row) i (pos 0)) ≡ unsigned_abs (part_of tables bound.query.items item row key) = ap unsigned_abs at in
        omega (arith, same, cap, small)
    | inr g ↦
        let none : get_or (row_parts bound tables item row) i (pos 0) ≡ pos 0 =
        get_or_past (row_parts bound tables item row) i (pos 0) (omega (arith, g, length-map bound.query.order (part_of tables bound.query.items item row))) in
        let zero_abs : unsigned_abs (get_or (row_parts bound tables item row) i (pos 0)) ≡ 0 = ap unsigned_abs none in
        omega (arith, zero_abs)
  ]

  module _ (limit item row : ℕ) (below : CapsBelow limit bound tables) (known : item < length bound.query.items) where
    at_below : (i z : ℕ) → z ≤ cap_at bound tables item i → z < limit
    at_below i z small =
        let one = one_of_all (λ k. cap_at bound tables k i) (length bound.query.items) item known in
        let all = below i in
        omega (arith, small, one, all)

    -- ranks that hold each key within these bounds hold that of a row
    pub node_row_held : {R : Type 0} (d : ℕ) (key : R → KeyOf d 16) (items rows : ℕ) → ((k : KeyOf d 16) → IsInLimits d items limit rows k → IsHeld d key k)
        → item < 16 → item < items → row < rows → IsHeld d key (row_key d (row_parts bound tables item row) item row)
    node_row_held d key items rows holds = row_held key holds (row_parts bound tables item row) item row
        (λ i. at_below i (unsigned_abs (get_or (row_parts bound tables item row) i (pos 0))) (part_small item row i))

  module _ (join : JoinTree) (shapes : List NodeShape) (of_join : AreShapesOf bound tables join join.count shapes) (v : ℕ) (l : v < join.count) where
    pub row_fits : (d row : ℕ) (k : KeyOf d 16) → item_of join v < 16 → k ≡ row_key d (row_parts bound tables (item_of join v) row) (item_of join v) row
        → RowFits d (shape_item shapes v) (shape_cap shapes v) row k
    row_fits d row k few is =
        let item = of_join.items v l in
        subst (RowFits d (shape_item shapes v) (shape_cap shapes v) row) (sym is)
        (subst (λ (i : ℕ). RowFits d i (shape_cap shapes v) row (row_key d (row_parts bound tables (item_of join v) row) (item_of join v) row)) (sym item)
        (row_key_fits d (row_parts bound tables (item_of join v) row) (item_of join v) row (shape_cap shapes v) few
        (λ i h. let cap = of_join.caps v i l in let small = part_small (item_of join v) row i in omega (arith, cap, small))))

    pub children_are : kids_below (parent_of join) v join.count ≡ shape_children shapes v
    children_are =
        kids_ap (parent_of join) (shape_parent shapes) v join.count (λ q h. sym (of_join.parents q h))
        ∙ ap (kids_below (shape_parent shapes) v) (sym of_join.count)
