-- The plan of a query, from what building, reducing and solving give.
use Rattle.std.proofs.Common.{◌≡◌, ℕ, ◌+◌, ◌<◌, ◌≤◌, List, length, map, get_or, slice_index, Err, refl, sym, ap, ◌∙◌, subst, arith}
use Rattle.std.proofs.lemmas.List.{ext_get_or, get_or-map, length-map}
use Rattle.tdp_model.specs.KeyTuple.{KeyOf}
use Rattle.tdp_model.specs.TreeProblem.{sum_from}
use Rattle.tdp_core.specs.RawView.{RawView, row_total, shape_at}
use Rattle.tdp_core.specs.TreeView.{NodeView, item, node_at, parent, rows}
use Rattle.tdp_core.specs.Solutions.{IsTieFreeRaw}
use Rattle.tdp_core.specs.WellFormed.{IsFormed}
use Rattle.join_tree.specs.Rerooting.{IsTree}
use Rattle.join_tree.specs.declared.tree.JoinTree.{JoinTree}
use Rattle.anyk_model.specs.Table.{Table}
use Rattle.anyk_model.specs.Query.{row_counts}
use Rattle.bound_query.specs.KeyParts.{sum_of_all}
use Rattle.bound_query.specs.WeighedQuery.{BoundQuery, Fits}
use Rattle.bound_query.specs.Shape.{HasShape, IsShape, too_many_rows}
use Rattle.bound_query.specs.JoinTreeView.{HasItems, HasStoredTree}
use Rattle.node_build.specs.Nodes.{IsBuilt, IsJoinTreeOf, PassesBudget, item_of, parent_of}
use Rattle.node_build.proofs.ShapeOf.{flaw_if_many, join_tree_of, numbers_in_all, numbers_of, rows_of_built, same_lengths, shape_of_rows}
use Rattle.bound_query.proofs.NodeSums.{sum_fewer, sum_of_lengths}
use Rattle.semi_join.specs.ReducedTrees.{IsReduced}
use Rattle.tree_dp.specs.SolvedTrees.{IsSolved}
use Rattle.plan_build.specs.Plan.{IsPlanFor, shape_view}
use Rattle.plan_build.proofs.Kept.{kept_in_all}
use Rattle.plan_build.proofs.PlanOf.{AreWitnesses, has_witnesses, ranking_agrees}
use Rattle.plan_build.proofs.PlanRows.{ranks_are, reduced_rows}
use Rattle.plan_build.proofs.Reordered.{moved_count, moved_length, moved_rows, moved_sum, node_item, node_within, node_from, rows_moved}
use Rattle.plan_build.proofs.Witnesses.{raw_witness, witness_raw}

-- the nodes of the solved tree are those of the join tree of which they are built
module _ {R : Type 0} (bound : BoundQuery) (tables : List Table) (d : ℕ) (key : R → KeyOf d 16) (over : JoinTree) (raw : RawView R) (built : IsBuilt bound tables d key over raw)
    (parts tree : List (NodeView R)) (reduced : IsReduced d key raw parts) (solved : IsSolved parts tree) where
  pub nodes_before : length parts ≡ length raw.shapes
  nodes_before = sym (length-map parts (λ n. n.shape)) ∙ ap length reduced.shapes

  pub nodes : length tree ≡ over.count
  nodes = solved.node_count ∙ nodes_before ∙ built.nodes

  -- the shape of a node of the tree is that of the raw tree
  node_shape : (v : ℕ) → v < length tree → (node_at tree v).shape ≡ shape_at raw.shapes v
  node_shape v l =
      let inside : v < length parts = (let n = solved.node_count in omega (arith, l, n)) in
      (solved.nodes v).shape ∙ sym (get_or-map (λ n. n.shape) parts v _ _ inside) ∙ ap (λ shapes. shape_at shapes v) reduced.shapes

  pub items_are : (v : ℕ) → v < length tree → item tree v ≡ item_of over v
  items_are v l =
      let inside : v < over.count = (let n = nodes in omega (arith, l, n)) in
      ap (λ s. s.item) (node_shape v l) ∙ built.items v inside

  pub parents_are : (v : ℕ) → v < length tree → parent tree v ≡ parent_of over v
  parents_are v l =
      let inside : v < over.count = (let n = nodes in omega (arith, l, n)) in
      ap (λ s. s.parent) (node_shape v l) ∙ built.parents v inside

-- `join` is the tree that ear removal gives, and `over` the join tree of which the nodes are built
module _ (bound : BoundQuery) (tables : List Table) (join : JoinTree) (stored : HasStoredTree bound.query join) (count : join.count ≡ length bound.query.items)
    (over : JoinTree) (joined : IsJoinTreeOf bound.query over) where
  by_ears : IsJoinTreeOf bound.query join
  by_ears = join_tree_of bound.query join stored count

  -- there are more node rows than a budget
  pub too_many : (budget : ℕ) → budget ≡ 4194304 → PassesBudget bound tables over budget → IsShape bound.query tables (Err too_many_rows)
  too_many budget is past =
      let rows = rows_moved bound tables over join joined by_ears past.rows in
      let of_nodes = moved_rows bound tables over join joined by_ears past.rows past.of_nodes in
      let moved = moved_sum bound tables over join joined by_ears past.rows (past.of_nodes.count ∙ joined.count) in
      let sum = sum_of_lengths past.rows in
      let p = past.past in
      flaw_if_many bound tables join stored count rows of_nodes (omega (arith, is, sum, p, moved))

  module _ {R : Type 0} (d : ℕ) (key : R → KeyOf d 16) (fits : Fits bound tables) (few : length bound.query.order ≤ d) (items : length bound.query.items ≤ 16)
      (ordered : IsTree join.count join.atom join.parent) (atoms : HasItems join.count join.atom (length bound.query.items))
      (raw : RawView R) (built : IsBuilt bound tables d key over raw) (each_node : length raw.rows ≡ length raw.shapes) (tie_free : IsTieFreeRaw raw)
      (parts tree : List (NodeView R)) (reduced : IsReduced d key raw parts) (solved : IsSolved parts tree) (formed : IsFormed d key tree) where
    are_witnesses : AreWitnesses d key bound.query tables raw
    are_witnesses = record {
      witness = raw_witness bound tables d key over raw fits few joined built;
      solution = witness_raw bound tables d key over raw fits few joined built;
    }

    rows_in_all : sum_from ◌+◌ 0 (rows tree) (length tree) 0 ≤ row_total raw
    rows_in_all =
        let same : length tree ≡ length raw.shapes = solved.node_count ∙ nodes_before bound tables d key over raw built parts tree reduced solved in
        let kept = kept_in_all d key raw parts reduced each_node in
        let fewer = sum_fewer (rows tree) (rows parts) (length raw.shapes) 0 (λ v a b. let e = ap length ((solved.nodes v).rows) in omega (arith, e)) in
        let all : sum_from ◌+◌ 0 (rows tree) (length tree) 0 ≡ sum_from ◌+◌ 0 (rows tree) (length raw.shapes) 0 = ap (λ n. sum_from ◌+◌ 0 (rows tree) n 0) same in
        omega (arith, kept, fewer, all)

    -- the numbers of rows of the nodes of `over` are put in the order of those of `join`
    module _ (rows_of node_rows : List ℕ) (rows_are : rows_of ≡ map length raw.rows) (counted : length node_rows ≡ length rows_of)
        (put : (u v : ℕ) → u < join.count → v < over.count → slice_index over.atom v ≡ slice_index join.atom u → slice_index node_rows u ≡ slice_index rows_of v) where
      abbrev moved : List (List ℕ)
      moved = rows_moved bound tables over join joined by_ears (numbers_of raw)

      numbers_count : length (numbers_of raw) ≡ length bound.query.items
      numbers_count = length-map raw.rows (map (λ x. x.row.row)) ∙ each_node ∙ built.nodes ∙ joined.count

      numbers_long : map length (numbers_of raw) ≡ rows_of
      numbers_long = same_lengths (λ x. x.row.row) raw.rows ∙ sym rows_are

      moved_long : length (map length moved) ≡ length bound.query.items
      moved_long = length-map moved length ∙ moved_count bound tables over join joined by_ears (numbers_of raw)

      in_order : map length moved ≡ node_rows
      in_order =
          let rows_long : length rows_of ≡ length bound.query.items = ap length (sym numbers_long) ∙ length-map (numbers_of raw) length ∙ numbers_count in
          ext_get_or 0 (map length moved) node_rows (moved_long ∙ sym (counted ∙ rows_long)) (λ u l.
          let low : u < length bound.query.items = (let m = moved_long in omega (arith, l, m)) in
          let v = node_from bound tables over join joined by_ears u in
          let there = node_within bound tables over join joined by_ears u low in
          let here : u < join.count = omega (arith, low, count) in
          let inside : v < over.count = (let c = joined.count in omega (arith, there, c)) in
          moved_length bound tables over join joined by_ears (numbers_of raw) numbers_count u low
          ∙ ap (λ (xs : List ℕ). get_or xs v 0) numbers_long
          ∙ sym (put u v here inside (node_item bound tables over join joined by_ears u low)))

      pub planned : (used total : ℕ) → used ≡ row_total raw → used ≤ 4194304 → total ≡ sum_of_all (row_counts bound.query.items tables) + used
          → IsPlanFor d key bound tables (record { tree = tree; join = join; node_rows = node_rows; total = total })
      planned used total is within sum =
          let all : sum_of_all node_rows ≡ used =
          ap sum_of_all (sym in_order) ∙ moved_sum bound tables over join joined by_ears (numbers_of raw) numbers_count ∙ numbers_in_all raw ∙ sym is in
          let of_nodes = moved_rows bound tables over join joined by_ears (numbers_of raw) (rows_of_built bound tables over d key raw built each_node) in
          let hung : HasShape bound.query tables (shape_view join node_rows) =
          subst (λ (rows : List ℕ). HasShape bound.query tables (shape_view join rows)) in_order (shape_of_rows bound tables join stored count moved of_nodes) in
          let apart = solved.tie_free (reduced.tie_free tie_free) in
          let has = has_witnesses d key bound.query tables raw parts tree reduced solved are_witnesses formed apart in
          record {
            keys = few;
            shape = shape_view join node_rows;
            is_shape = (hung, omega (arith, all, within));
            shown = refl;
            total = omega (arith, sum, all);
            count = count;
            ordered = ordered;
            atoms = atoms;
            nodes = nodes bound tables d key over raw built parts tree reduced solved ∙ joined.count;
            fewer = let r = rows_in_all in omega (arith, r, all, is);
            reduced = reduced_rows d key bound tables over raw built parts tree reduced solved formed;
            ranks = ranks_are d key bound tables over raw built parts tree reduced solved formed;
            witnesses = has;
            tie_free = apart;
            ranking = ranking_agrees d key bound.query tables raw parts tree reduced solved few items has;
          }
