-- The raw tree that is built for a query has the rows and the links of its problem, and the query's shape has their numbers.
use Rattle.std.proofs.Common.{◌≡◌, ◌↔◌, ◌<◌, ◌≤◌, ℕ, ℤ, List, map, take, length}
use Rattle.std.proofs.Common.{sym, ap, subst, ◌∙◌, inl, inr, arith, Ok, Err}
use Rattle.std.proofs.lemmas.List.{get_or-take, length-map}
use Rattle.anyk_model.specs.Table.{Table}
use Rattle.anyk_model.specs.Query.{OrderKey}
use Rattle.join_tree.specs.declared.tree.JoinTree.{JoinTree}
use Rattle.tdp_model.specs.KeyTuple.{KeyOf}
use Rattle.rankings.proofs.Members.{get_member, member_get}
use Rattle.rank_key.specs.Keys.{row_key}
use Rattle.tdp_core.specs.RawView.{RawView, child_link, own_link, raw_len, raw_number, row_total, rows_at, shape_child_place}
use Rattle.bound_query.specs.WeighedQuery.{BoundQuery, Fits}
use Rattle.bound_query.specs.Weights.{part_of}
use Rattle.bound_query.specs.Shape.{IsShape, Shape, too_many_rows}
use Rattle.bound_query.specs.JoinTreeView.{HasStoredTree}
use Rattle.node_build.specs.Nodes.{IsBuilt, PassesBudget, item_of, parent_of, row_parts}
use Rattle.proof_model.specs.Problem.{Problem}
use Rattle.proof_model.specs.QueryProblem.{IsPassing, RowsEqual, RowsMatch, problem_in, row_rank}
use Rattle.proof_model.proofs.Wider.{wide_lists}
use Rattle.proof_model.proofs.Matching.{equal_iff, match_iff}
use Rattle.proof_check.specs.BoundedRows.{HasProblemRows, query_key}
use Rattle.bound_query.proofs.NodeSums.{sum_of_lengths}
use Rattle.node_build.proofs.ShapeOf.{flaw_if_many, nodes-count, numbers_in_all, numbers_of, rows_of_built, shape_if_few, shape_with}

module _ (bound : BoundQuery) (tables : List Table) (join : JoinTree) (stored : HasStoredTree bound.query join)
    (count : join.count ≡ length bound.query.items) where
  abbrev t : Problem (KeyOf (length bound.query.order) 16)
  t = problem_in bound.query tables join

  in_all : t.nodes ≡ join.count
  in_all = nodes-count bound tables join stored count

  item_is : (v : ℕ) → v < join.count → t.item v ≡ item_of join v
  item_is v l = get_or-take join.count join.atom v 0 l

  parent_is : (v : ℕ) → v < join.count → t.parent v ≡ parent_of join v
  parent_is v l = get_or-take join.count join.parent v 0 l

  -- ---- the shape of the query

  pub too_many : PassesBudget bound tables join 4194304 → IsShape bound.query tables (Err too_many_rows)
  too_many past = flaw_if_many bound tables join stored count past.rows past.of_nodes (omega (arith, sum_of_lengths past.rows, past.past))

  module _ {R : Type 0} (d : ℕ) (key : R → KeyOf d 16) (raw : RawView R) (built : IsBuilt bound tables d key join raw) where
    pub shape_known : length raw.rows ≡ length raw.shapes → row_total raw ≤ 4194304
        → (shape : Shape) × IsShape bound.query tables (Ok shape)
    shape_known each_node few =
        let all = numbers_in_all raw in (
          shape_with bound tables join stored count (numbers_of raw),
          shape_if_few bound tables join stored count (numbers_of raw)
              (rows_of_built bound tables join d key raw built each_node) (omega (arith, all, few)),
        )

    -- ---- the rows of the problem

    module _ (fits : Fits bound tables) (few : length bound.query.order ≤ d) where
      long : (v : ℕ) → length (map (λ x. x.row.row) (rows_at raw v)) ≡ raw_len raw v
      long v = length-map (rows_at raw v) (λ x. x.row.row)

      passing : (v i : ℕ) → v < join.count → i < raw_len raw v → IsPassing bound.query tables (item_of join v) (raw_number raw v i)
      passing v i l h =
          ((built.rows v l).members (raw_number raw v i)).0
          (get_member (map (λ x. x.row.row) (rows_at raw v)) i 0 (let n = long v in omega (arith, h, n)))

      row_of : (v row : ℕ) → v < join.count → IsPassing bound.query tables (item_of join v) row
          → (i : ℕ) × (i < raw_len raw v) × (raw_number raw v i ≡ row)
      row_of v row l h =
          let m = member_get (map (λ x. x.row.row) (rows_at raw v)) row 0 (((built.rows v l).members row).1 h) in
          (m.0, omega (arith, m.1, long v), m.2)

      rank_of : (v i : ℕ) → v < join.count → i < raw_len raw v
          → row_key d (row_parts bound tables (item_of join v) (raw_number raw v i)) (item_of join v) (raw_number raw v i)
          ≡ query_key bound.query d (row_rank bound.query tables (item_of join v) (raw_number raw v i))
      rank_of v i l h =
          let part : OrderKey → ℤ = part_of tables bound.query.items (item_of join v) (raw_number raw v i) in
          sym (wide_lists (length bound.query.order) d 16 few (map part bound.query.order) _
          (let n = length-map bound.query.order part in omega (arith, n)))

      link_iff : (q r i : ℕ) → 0 < q → q < join.count → parent_of join q < join.count → r < raw_len raw (parent_of join q)
          → i < raw_len raw q
          → (own_link raw q i ≡ child_link raw (parent_of join q) r (shape_child_place raw.shapes q))
          ↔ (IsPassing bound.query tables (item_of join q) (raw_number raw q i)
          × RowsMatch bound.query tables (item_of join q) (item_of join (parent_of join q)) (raw_number raw q i)
          (raw_number raw (parent_of join q) r))
      link_iff q r i p l u h k =
          let here = passing q i l k in
          let link = built.links q i r p l k h in
          let match = match_iff bound.query tables bound.variables fits.variables (item_of join q) (item_of join (parent_of join q)) (raw_number raw q i)
          (raw_number raw (parent_of join q) r) here.2 (passing (parent_of join q) r u h).2 in
          (λ e. (here, match.1 (link.0 e)), λ m. link.1 (match.0 m.1))

      group_iff : (q i j : ℕ) → 0 < q → q < join.count → i < raw_len raw q → j < raw_len raw q
          → (own_link raw q i ≡ own_link raw q j)
          ↔ RowsEqual bound.query tables (item_of join q) (item_of join (parent_of join q)) (raw_number raw q i) (raw_number raw q j)
      group_iff q i j p l h k =
          let link = built.own_links q i j p l h k in
          let equal = equal_iff bound.query tables bound.variables fits.variables (item_of join q) (item_of join (parent_of join q)) (raw_number raw q i)
          (raw_number raw q j) (passing q i l h).2 (passing q j l k).2 in
          (λ e. equal.1 (link.0 e), λ m. link.1 (equal.0 m))

      inside : (v : ℕ) → v < t.nodes → v < join.count
      inside v l = subst (λ n. v < n) in_all l

      upper : (q : ℕ) → 0 < q → q < join.count → parent_of join q < join.count
      upper q p l =
          let long : length (take join.count join.parent) ≡ t.nodes = stored.join_tree.has_parents ∙ sym stored.join_tree.nodes in
          omega (arith, parent_is q l, stored.join_tree.first.earlier q p (omega (arith, l, in_all, long)), l)

      -- what holds of a node's item, its parent and the parent's item
      move : (q : ℕ) → 0 < q → q < join.count → (P : ℕ → ℕ → ℕ → Type 0)
          → P (item_of join q) (parent_of join q) (item_of join (parent_of join q)) → P (t.item q) (t.parent q) (t.item (t.parent q))
      move q p l P h =
          subst (λ a. P (t.item q) a (t.item a)) (sym (parent_is q l))
          (subst (λ x. P x (parent_of join q) (t.item (parent_of join q))) (sym (item_is q l))
          (subst (λ y. P (item_of join q) (parent_of join q) y) (sym (item_is (parent_of join q) (upper q p l))) h))

      pub problem_rows : HasProblemRows bound.query tables join d key raw
      problem_rows = record {
        nodes = built.nodes ∙ sym in_all;
        parents = λ v l. built.parents v (inside v l) ∙ sym (parent_is v (inside v l));
        items = λ v l. built.items v (inside v l) ∙ sym (item_is v (inside v l));
        ascending = λ v l. (built.rows v (inside v l)).ascending;
        is_row = λ v i l h. subst (λ k. IsPassing bound.query tables k (raw_number raw v i)) (sym (item_is v (inside v l)))
            (passing v i (inside v l) h);
        every_row = λ v row l h. row_of v row (inside v l)
            (subst (λ k. IsPassing bound.query tables k row) (item_is v (inside v l)) h);
        keys = λ v i l h. built.ranks v i (inside v l) h ∙ rank_of v i (inside v l) h
            ∙ ap (λ k. query_key bound.query d (row_rank bound.query tables k (raw_number raw v i))) (sym (item_is v (inside v l)));
        fits = λ q r i p l h k.
            move q p (inside q l)
            (λ x a y. (own_link raw q i ≡ child_link raw a r (shape_child_place raw.shapes q))
            ↔ (IsPassing bound.query tables x (raw_number raw q i)
            × RowsMatch bound.query tables x y (raw_number raw q i) (raw_number raw a r)))
            (link_iff q r i p (inside q l) (upper q p (inside q l))
            (subst (λ a. r < raw_len raw a) (parent_is q (inside q l)) h) k);
        grouped = λ q i j p l h k.
            let iff = move q p (inside q l)
            (λ x a y. (own_link raw q i ≡ own_link raw q j) ↔ RowsEqual bound.query tables x y (raw_number raw q i) (raw_number raw q j))
            (group_iff q i j p (inside q l) h k) in
            (λ e. inr (iff.0 e), λ m. elim m [ inl z ↦ absurd (omega (arith, p, z)) | inr x ↦ iff.1 x ]);
      }
