-- The rows of the nodes of a plan's tree, and their groups.
use Rattle.std.proofs.Common.{◌≡◌, ◌↔◌, ℕ, zero, suc, ◌+◌, ◌-◌, ◌<◌, ◌≤◌, List, map, length, get_or, slice_index, sym, ap, ◌∙◌, subst, arith}
use Rattle.std.specs.List.{Contains}
use Rattle.std.specs.List.Sorted.{IsPermutation, IsStrictlyIncreasing}
use Rattle.std.proofs.Math.Path.{fun_ext}
use Rattle.std.proofs.lemmas.List.{length-map}
use Rattle.std.proofs.lemmas.List.Sorted.{Contains-permutation, IsPermutation-sym}
use Rattle.std.proofs.lemmas.Grind.{get_or_default_zero}
use Rattle.rankings.specs.Order.{IsMember}
use Rattle.join_tree.specs.declared.tree.JoinTree.{JoinTree}
use Rattle.tdp_model.specs.KeyTuple.{KeyOf, key_none}
use Rattle.tdp_model.specs.Regions.{place_of}
use Rattle.tdp_core.specs.RawView.{RawView, child_link, own_link, raw_len, raw_number, raw_rank, rows_at, shape_child_place, shape_parent}
use Rattle.tdp_core.specs.TreeView.{NodeView, group, group_number, item, members, node_at, number, parent, rank, rows}
use Rattle.tdp_core.specs.Solutions.{Extends, RawExtends, RawLinked}
use Rattle.tdp_core.specs.WellFormed.{IsFormed}
use Rattle.anyk_model.specs.Table.{Table}
use Rattle.anyk_model.specs.Query.{item_table}
use Rattle.bound_query.specs.Classes.{Passes}
use Rattle.bound_query.specs.WeighedQuery.{BoundQuery}
use Rattle.rank_key.specs.Keys.{row_key}
use Rattle.node_build.specs.Nodes.{IsBuilt, RowsAgree, RowsAlike, item_of, parent_of, row_parts}
use Rattle.semi_join.specs.ReducedTrees.{IsReduced, ShareGroup}
use Rattle.semi_join.proofs.NodeRows.{row_field, rows_count}
use Rattle.semi_join.proofs.SameShapes.{count_same, parent_same, shape_same}
use Rattle.tree_dp.specs.SolvedTrees.{IsReordered, IsSolved}
use Rattle.tree_dp.proofs.ReorderedNodes.{group_number_same}
use Rattle.plan_build.specs.Plan.{HasReducedRows, RowPasses, RowsJoined, numbers}
use Rattle.plan_build.proofs.Places.{Rises, extends_in, extends_out, member_place, place_member, rises_at, rises_of}

-- a group has the same members before and after the reduction
group_same : {R : Type 0} (before after : List (NodeView R)) (nodes : (v : ℕ) → IsReordered (node_at before v) (node_at after v)) (q r : ℕ)
    → IsPermutation (group before q r) (group after q r)
group_same before after nodes q r =
    subst (λ g. IsPermutation (group before q r) (members after q g)) (sym (group_number_same before after nodes q r)) ((nodes q).groups (group_number before q r))

-- in a strictly increasing list each element is below the later ones
increasing_by : (xs : List ℕ) → IsStrictlyIncreasing xs → (i k : ℕ) → i + suc k < length xs → get_or xs i 0 < get_or xs (i + suc k) 0
increasing_by xs up i zero l = let next : i + 1 < length xs = omega (arith, l) in up i next
increasing_by xs up i (suc k) l =
    let before = increasing_by xs up i k (omega (arith, l)) in
    let next = up (i + suc k) (omega (arith, l)) in
    let same : (i + suc k) + 1 ≡ i + suc (suc k) = omega arith in
    let e = ap (λ j. get_or xs j 0) same in
    omega (arith, before, next, e)

increasing_at : (xs : List ℕ) → IsStrictlyIncreasing xs → (i j : ℕ) → i < j → j < length xs → get_or xs i 0 < get_or xs j 0
increasing_at xs up i j less l =
    let there : i + suc (j - i - 1) ≡ j = omega (arith, less) in
    let step = increasing_by xs up i (j - i - 1) (omega (arith, there, l)) in
    let e = ap (λ k. get_or xs k 0) there in
    omega (arith, step, e)

module _ {R : Type 0} (d : ℕ) (key : R → KeyOf d 16) (bound : BoundQuery) (tables : List Table) (join : JoinTree) (raw : RawView R)
    (built : IsBuilt bound tables d key join raw) (parts tree : List (NodeView R)) (reduced : IsReduced d key raw parts) (solved : IsSolved parts tree)
    (formed : IsFormed d key tree) where
  -- # The tree beside the raw tree

  abbrev n : ℕ
  n = length tree

  count : n ≡ length raw.shapes
  count = solved.node_count ∙ count_same raw.shapes parts reduced.shapes

  ups : parent tree ≡ shape_parent raw.shapes
  ups = fun_ext (λ q. ap (λ s. s.parent) (solved.nodes q).shape) ∙ parent_same raw.shapes parts reduced.shapes

  in_raw : (v : ℕ) → v < n → v < length raw.shapes
  in_raw v l = omega (arith, l, count)

  in_join : (v : ℕ) → v < n → v < join.count
  in_join v l = let c = built.nodes in omega (arith, l, count, c)

  up_of : (v : ℕ) → v < n → parent tree v ≡ parent_of join v
  up_of v l = ap (λ f. f v) ups ∙ built.parents v (in_join v l)

  item_is : (v : ℕ) → v < n → item tree v ≡ item_of join v
  item_is v l = ap (λ s. s.item) ((solved.nodes v).shape ∙ shape_same raw.shapes parts reduced.shapes v) ∙ built.items v (in_join v l)

  early : (v : ℕ) → 0 < v → v < n → parent tree v < v
  early = formed.shaped.parents_first

  up_inside : (v : ℕ) → 0 < v → v < n → parent tree v < n
  up_inside v above l = let e = early v above l in omega (arith, e, l)

  up_item : (v : ℕ) → 0 < v → v < n → item tree (parent tree v) ≡ item_of join (parent_of join v)
  up_item v above l = item_is (parent tree v) (up_inside v above l) ∙ ap (item_of join) (up_of v l)

  -- # Numbers of rows

  abbrev raw_numbers : ℕ → List ℕ
  raw_numbers v = map (λ x. x.row.row) (rows_at raw v)

  raw_size : (v : ℕ) → length (raw_numbers v) ≡ raw_len raw v
  raw_size v = length-map (rows_at raw v) (λ x. x.row.row)

  raw_ascending : (v : ℕ) → v < n → Rises (raw_numbers v)
  raw_ascending v l = (built.rows v (in_join v l)).ascending

  raw_members : (v row : ℕ) → v < n → IsMember row (raw_numbers v) ↔ RowPasses bound tables tree v row
  raw_members v row l =
      subst (λ a. IsMember row (raw_numbers v) ↔ ((1 ≤ row) × (row ≤ length (item_table bound.query tables a).rows) × Passes bound.query tables a row))
      (sym (item_is v l)) ((built.rows v (in_join v l)).members row)

  kept_rows : (v : ℕ) → (node_at tree v).rows ≡ (node_at parts v).rows
  kept_rows v = (solved.nodes v).rows

  rows_kept : (v : ℕ) → v < n → rows tree v ≡ length (reduced.kept v)
  rows_kept v l = ap length (kept_rows v) ∙ rows_count raw v (reduced.kept v) (node_at parts v).rows (reduced.rows v (in_raw v l))

  number_kept : (v i : ℕ) → v < n → i < length (reduced.kept v) → number tree v i ≡ raw_number raw v (slice_index (reduced.kept v) i)
  number_kept v i l inside =
      ap (λ xs. slice_index (map (λ x. x.row) xs) i) (kept_rows v) ∙ row_field raw v (reduced.kept v) (node_at parts v).rows (reduced.rows v (in_raw v l)) (λ x. x.row) 0 i inside

  kept_inside : (v i : ℕ) → v < n → i < length (reduced.kept v) → slice_index (reduced.kept v) i < raw_len raw v
  kept_inside v i l inside =
      ((reduced.exact v (slice_index (reduced.kept v) i) (in_raw v l)).0 (i, inside, get_or_default_zero (reduced.kept v) i (slice_index (reduced.kept v) i) inside)).0

  number_size : (v : ℕ) → v < n → length (numbers bound tables tree v) ≡ length (reduced.kept v)
  number_size v l = length-map (node_at tree v).rows (λ x. x.row) ∙ rows_kept v l

  ascending_rows : (v : ℕ) → v < n → Rises (numbers bound tables tree v)
  ascending_rows v l = rises_of (numbers bound tables tree v) (λ i j less inside.
      let size = number_size v l in
      let low : i < length (reduced.kept v) = omega (arith, size, less, inside) in
      let high : j < length (reduced.kept v) = omega (arith, size, inside) in
      let before = increasing_at (reduced.kept v) (reduced.ascending v (in_raw v l)) i j less high in
      let up = kept_inside v j l high in
      let wide = raw_size v in
      let rise = rises_at (raw_numbers v) (raw_ascending v l) (slice_index (reduced.kept v) i) (slice_index (reduced.kept v) j) before (omega (arith, up, wide)) in
      let first = number_kept v i l low in
      let second = number_kept v j l high in
      omega (arith, rise, first, second))

  -- # Rows that extend

  abbrev Agree : ℕ → ℕ → ℕ → Type 0
  Agree q above row = RowsAgree bound tables (item tree q) (item tree (parent tree q)) row above

  abbrev Joined : ℕ → ℕ → ℕ → Type 0
  Joined q r i = own_link raw q i ≡ child_link raw (shape_parent raw.shapes q) r (shape_child_place raw.shapes q)

  joined_agree : (q r i : ℕ) → 0 < q → q < n → i < raw_len raw q → r < raw_len raw (parent tree q) → Joined q r i ↔ Agree q (raw_number raw (parent tree q) r) (raw_number raw q i)
  joined_agree q r i above l inside high =
      let there : r < raw_len raw (parent_of join q) = subst (λ p. r < raw_len raw p) (up_of q l) high in
      let base = built.links q i r above (in_join q l) inside there in
      let F : ℕ → ℕ → ℕ → Type 0 = λ p a b. Joined q r i ↔ RowsAgree bound tables a b (raw_number raw q i) (raw_number raw p r) in
      let G : Joined q r i ↔ RowsAgree bound tables (item_of join q) (item_of join (parent_of join q)) (raw_number raw q i) (raw_number raw (parent_of join q) r) =
      subst (λ p. (own_link raw q i ≡ child_link raw p r (shape_child_place raw.shapes q)) ↔ RowsAgree bound tables (item_of join q) (item_of join (parent_of join q)) (raw_number raw q i) (raw_number raw (parent_of join q) r))
      (sym (built.parents q (in_join q l))) base in
      subst (λ p. F p (item tree q) (item tree (parent tree q))) (sym (up_of q l))
      (subst (λ a. F (parent_of join q) a (item tree (parent tree q))) (sym (item_is q l)) (subst (F (parent_of join q) (item_of join q)) (sym (up_item q above l)) G))

  raw_extends : (v r : ℕ) → RawExtends raw v r → Extends n (parent tree) (RawLinked raw) v r
  raw_extends v r e = subst (λ up. Extends n up (RawLinked raw) v r) (sym ups) (subst (λ m. Extends m (shape_parent raw.shapes) (RawLinked raw) v r) (sym count) e)

  extends_raw : (v r : ℕ) → Extends n (parent tree) (RawLinked raw) v r → RawExtends raw v r
  extends_raw v r e = subst (λ m. Extends m (shape_parent raw.shapes) (RawLinked raw) v r) count (subst (λ up. Extends n up (RawLinked raw) v r) ups e)

  members_in : (v row : ℕ) → v < n → IsMember row (numbers bound tables tree v) → RowPasses bound tables tree v row × Extends n (parent tree) (RowsJoined bound tables tree) v row
  members_in v row l member =
      let at = member_place row (numbers bound tables tree v) member in
      let size = number_size v l in
      let i = place_of row (numbers bound tables tree v) in
      let inside : i < length (reduced.kept v) = (let low = at.0 in omega (arith, low, size)) in
      let r = slice_index (reduced.kept v) i in
      let is : raw_number raw v r ≡ row = sym (number_kept v i l inside) ∙ at.1 in
      let exact = (reduced.exact v r (in_raw v l)).0 (i, inside, get_or_default_zero (reduced.kept v) i r inside) in
      let wide = raw_size v in
      let out = extends_out n (parent tree) early raw_numbers (raw_len raw) raw_size (RowPasses bound tables tree) Agree Joined raw_ascending raw_members joined_agree
      v r l exact.0 (raw_extends v r exact.1) in (
        (raw_members v row l).0 (subst (λ x. IsMember x (raw_numbers v)) is (place_member (raw_numbers v) r (let low = exact.0 in omega (arith, low, wide)))),
        subst (Extends n (parent tree) (RowsJoined bound tables tree) v) is out,
      )

  members_out : (v row : ℕ) → v < n → RowPasses bound tables tree v row → Extends n (parent tree) (RowsJoined bound tables tree) v row → IsMember row (numbers bound tables tree v)
  members_out v row l passes extends =
      let at = member_place row (raw_numbers v) ((raw_members v row l).1 passes) in
      let r = place_of row (raw_numbers v) in
      let wide = raw_size v in
      let inside : r < raw_len raw v = (let low = at.0 in omega (arith, low, wide)) in
      let whole = extends_in n (parent tree) early raw_numbers (raw_len raw) raw_size (RowPasses bound tables tree) Agree Joined raw_ascending raw_members joined_agree
      v r l inside (subst (Extends n (parent tree) (RowsJoined bound tables tree) v) (sym at.1) extends) in
      let kept = (reduced.exact v r (in_raw v l)).1 (inside, extends_raw v r whole) in
      let k : ℕ = kept.0 in
      let low : k < length (reduced.kept v) = kept.1 in
      let same : slice_index (reduced.kept v) k ≡ r = sym (get_or_default_zero (reduced.kept v) k r low) ∙ kept.2 in
      let size = number_size v l in
      subst (λ x. IsMember x (numbers bound tables tree v)) (number_kept v k l low ∙ ap (slice_index (raw_numbers v)) same ∙ at.1)
      (place_member (numbers bound tables tree v) k (omega (arith, size, low)))

  -- # Groups

  shared_before : (v i j : ℕ) → ShareGroup tree v i j → ShareGroup parts v i j
  shared_before v i j share =
      let back = IsPermutation-sym _ _ ((solved.nodes v).groups share.0) in
      (share.0, Contains-permutation _ _ i back share.1, Contains-permutation _ _ j back share.2)

  shared_after : (v i j : ℕ) → ShareGroup parts v i j → ShareGroup tree v i j
  shared_after v i j share =
      let on = (solved.nodes v).groups share.0 in
      (share.0, Contains-permutation _ _ i on share.1, Contains-permutation _ _ j on share.2)

  groups_alike : (v i j : ℕ) → 0 < v → v < n → i < rows tree v → j < rows tree v
      → ShareGroup tree v i j ↔ RowsAlike bound tables (item tree v) (item tree (parent tree v)) (number tree v i) (number tree v j)
  groups_alike v i j above l li lj =
      let size = rows_kept v l in
      let low : i < length (reduced.kept v) = omega (arith, size, li) in
      let high : j < length (reduced.kept v) = omega (arith, size, lj) in
      let one = reduced.one_group v i j above (in_raw v l) low high in
      let alike = built.own_links v (slice_index (reduced.kept v) i) (slice_index (reduced.kept v) j) above (in_join v l) (kept_inside v i l low) (kept_inside v j l high) in
      let F : ℕ → ℕ → ℕ → ℕ → Type 0 = λ a b x y. ShareGroup tree v i j ↔ RowsAlike bound tables a b x y in
      let base : F (item_of join v) (item_of join (parent_of join v)) (raw_number raw v (slice_index (reduced.kept v) i)) (raw_number raw v (slice_index (reduced.kept v) j)) =
      (λ share. alike.0 (one.0 (shared_before v i j share)), λ same. shared_after v i j (one.1 (alike.1 same))) in
      subst (λ a. F a (item tree (parent tree v)) (number tree v i) (number tree v j)) (sym (item_is v l))
      (subst (λ b. F (item_of join v) b (number tree v i) (number tree v j)) (sym (up_item v above l))
      (subst (λ x. F (item_of join v) (item_of join (parent_of join v)) x (number tree v j)) (sym (number_kept v i l low))
      (subst (F (item_of join v) (item_of join (parent_of join v)) (raw_number raw v (slice_index (reduced.kept v) i))) (sym (number_kept v j l high)) base)))

  -- # The group that a row names

  named_agree : (v r i : ℕ) → 0 < v → v < n → r < rows tree (parent tree v)
      → Contains (group tree v r) i ↔ ((i < rows tree v) × RowsAgree bound tables (item tree v) (item tree (parent tree v)) (number tree v i) (number tree (parent tree v) r))
  named_agree v r i above l lr = (to, back)
    where
      p : ℕ
      p = parent tree v

      inside_p : parent tree v < n
      inside_p = up_inside v above l

      low : r < length (reduced.kept (parent tree v))
      low = let size = rows_kept (parent tree v) inside_p in omega (arith, size, lr)

      same_up : parent tree v ≡ shape_parent raw.shapes v
      same_up = ap (λ f. f v) ups

      child : Contains (group parts v r) i ↔ ((i < length (reduced.kept v)) × Joined v (slice_index (reduced.kept (shape_parent raw.shapes v)) r) (slice_index (reduced.kept v) i))
      child = reduced.to_child v r i above (in_raw v l) (subst (λ q. r < length (reduced.kept q)) same_up low)

      joined : (k : i < length (reduced.kept v)) → Joined v (slice_index (reduced.kept (parent tree v)) r) (slice_index (reduced.kept v) i)
          ↔ RowsAgree bound tables (item tree v) (item tree (parent tree v)) (number tree v i) (number tree (parent tree v) r)
      joined k =
          let base = joined_agree v (slice_index (reduced.kept (parent tree v)) r) (slice_index (reduced.kept v) i) above l (kept_inside v i l k) (kept_inside (parent tree v) r inside_p low) in
          let F : ℕ → ℕ → Type 0 = λ x y. Joined v (slice_index (reduced.kept (parent tree v)) r) (slice_index (reduced.kept v) i) ↔ RowsAgree bound tables (item tree v) (item tree (parent tree v)) x y in
          subst (λ x. F x (number tree (parent tree v) r)) (sym (number_kept v i l k)) (subst (F (raw_number raw v (slice_index (reduced.kept v) i))) (sym (number_kept (parent tree v) r inside_p low)) base)

      to : Contains (group tree v r) i → (i < rows tree v) × RowsAgree bound tables (item tree v) (item tree (parent tree v)) (number tree v i) (number tree (parent tree v) r)
      to c =
          let before = child.0 (Contains-permutation _ _ i (IsPermutation-sym _ _ (group_same parts tree solved.nodes v r)) c) in
          let k : i < length (reduced.kept v) = before.0 in
          let size = rows_kept v l in
          (omega (arith, k, size), (joined k).0 (subst (λ q. Joined v (slice_index (reduced.kept q) r) (slice_index (reduced.kept v) i)) (sym same_up) before.1))

      back : (i < rows tree v) × RowsAgree bound tables (item tree v) (item tree (parent tree v)) (number tree v i) (number tree (parent tree v) r) → Contains (group tree v r) i
      back both =
          let inside : i < rows tree v = both.0 in
          let size = rows_kept v l in
          let k : i < length (reduced.kept v) = omega (arith, inside, size) in
          Contains-permutation _ _ i (group_same parts tree solved.nodes v r) (child.1 (k, subst (λ q. Joined v (slice_index (reduced.kept q) r) (slice_index (reduced.kept v) i)) same_up ((joined k).1 both.1)))

  pub reduced_rows : HasReducedRows bound tables tree
  reduced_rows = record {
    ascending = ascending_rows;
    members = λ v row l. (members_in v row l, λ both. members_out v row l both.0 both.1);
    groups = groups_alike;
    named = named_agree;
  }

  -- # Keys of rows

  rank_kept : (v i : ℕ) → v < n → i < length (reduced.kept v) → rank tree d key v i ≡ raw_rank raw d key v (slice_index (reduced.kept v) i)
  rank_kept v i l inside =
      ap (λ xs. get_or (map (λ x. key x.rank) xs) i (key_none d 16)) (kept_rows v)
      ∙ row_field raw v (reduced.kept v) (node_at parts v).rows (reduced.rows v (in_raw v l)) (λ x. key x.rank) (key_none d 16) i inside

  -- the key of a row is that of its item's row
  pub ranks_are : (v i : ℕ) → v < n → i < rows tree v
      → rank tree d key v i ≡ row_key d (row_parts bound tables (item tree v) (number tree v i)) (item tree v) (number tree v i)
  ranks_are v i l row =
      let size = rows_kept v l in
      let low : i < length (reduced.kept v) = omega (arith, size, row) in
      rank_kept v i l low ∙ built.ranks v (slice_index (reduced.kept v) i) (in_join v l) (kept_inside v i l low)
      ∙ ap (λ x. row_key d (row_parts bound tables (item_of join v) x) (item_of join v) x) (sym (number_kept v i l low))
      ∙ ap (λ a. row_key d (row_parts bound tables a (number tree v i)) a (number tree v i)) (sym (item_is v l))
