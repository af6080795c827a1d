-- The tree problem of a query, over the tree of a plan.
use Rattle.std.proofs.Common.{◌≡◌, ◌<◌, ◌≤◌, ◌⊎◌, ℕ, zero, suc, cond, nat_eq, Contains, List, map, length}
use Rattle.std.proofs.Common.{slice_index, replicate, slice_set, refl, sym, ap, subst, ◌∙◌, inl, inr, arith}
use Rattle.std.proofs.lemmas.Bool.{cases_eq, cases_lt}
use Rattle.std.proofs.lemmas.List.{get_or_default, length-map}
use Rattle.tdp_model.specs.Below.{is_below}
use Rattle.tdp_model.specs.KeyTuple.{KeyOf, key_add, key_below, key_none}
use Rattle.tdp_model.specs.Regions.{place_of}
use Rattle.tdp_model.proofs.Descent.{below_less, below_parent}
use Rattle.tdp_model.proofs.KeyTuples.{tuple_keys}
use Rattle.tdp_model.proofs.Sums.{sum_same}
use Rattle.tdp_core.specs.TreeView.{NodeView, group, group_count, item, members, node_at, number, parent, rank, rows}
use Rattle.tdp_core.specs.Solutions.{Extends}
use Rattle.tdp_core.specs.WellFormed.{IsFormed}
use Rattle.anyk_model.specs.Table.{Table}
use Rattle.anyk_model.specs.Query.{Query}
use Rattle.bound_query.specs.Classes.{AreVariables}
use Rattle.bound_query.specs.WeighedQuery.{BoundQuery}
use Rattle.bound_query.specs.Weights.{part_of}
use Rattle.rank_key.specs.Keys.{row_key}
use Rattle.plan_build.specs.Plan.{HasReducedRows, RowPasses, RowsJoined, numbers}
use Rattle.plan_build.proofs.Places.{member_place, place_member, rises_apart}
use Rattle.proof_model.specs.Problem.{Problem}
use Rattle.proof_model.specs.QueryProblem.{IsPassing, RowsEqual, RowsMatch, row_rank}
use Rattle.proof_model.specs.Laws.{IsProblem, IsSubtree, subtree_key}
use Rattle.proof_model.specs.Wide.{wide}
use Rattle.proof_model.proofs.Matching.{equal_iff, match_iff}
use Rattle.proof_model.proofs.SolutionRows.{HasItems, IsListOf}
use Rattle.proof_model.proofs.Sums.{pick_ne}
use Rattle.proof_model.proofs.Wider.{wide_cond, wide_lists, wide_sum}
use Rattle.proof_write.specs.Firsts.{AreTold, IsFirst, IsUnder, listed}
use Rattle.proof_write.proofs.BestSums.{chosen_key}
use Rattle.proof_write.proofs.Groups.{group_of, one_group}
use Rattle.proof_write.proofs.Listing.{listed_count, listed_place}
use Rattle.proof_write.proofs.NodeBounds.{absent, early, first_inside, items_apart_lem, items_within, itself, once}
use Rattle.proof_write.proofs.NodeBounds.{parent_under, positive, row_there, under_from}

-- the tree problem of a query, over nodes with these parents and items
abbrev pub problem_with : (query : Query) → List Table → ℕ → (ℕ → ℕ) → (ℕ → ℕ) → Problem (KeyOf (length query.order) 16)
problem_with query tables nodes parent item = record {
  nodes = nodes;
  parent = parent;
  item = item;
  IsRow = λ v row. IsPassing query tables (item v) row;
  Fits = λ v above row. IsPassing query tables (item v) row
      × RowsMatch query tables (item v) (item (parent v)) row above;
  IsGrouped = λ v row other. (v ≡ 0) ⊎ RowsEqual query tables (item v) (item (parent v)) row other;
  key = λ v row. row_rank query tables (item v) row;
  Below = key_below (length query.order) 16;
  add = key_add (length query.order) 16;
  none = key_none (length query.order) 16;
}

module _ {R : Type 0} (bound : BoundQuery) (tables : List Table) (tree : List (NodeView R))
    (reduced : HasReducedRows bound tables tree) where
  number_size : (v : ℕ) → length (numbers bound tables tree v) ≡ rows tree v
  number_size v = length-map (node_at tree v).rows (λ x. x.row)

  pub row_passes : (v r : ℕ) → v < length tree → r < rows tree v → RowPasses bound tables tree v (number tree v r)
  row_passes v r l row =
      ((reduced.members v (number tree v r) l).0
      (place_member (numbers bound tables tree v) r (omega (arith, number_size v, row)))).0

  pub told : AreTold tree
  told = record {
    positive = λ v r l row. (row_passes v r l row).0;
    apart = λ v r s l lr ls e.
        let n = number_size v in
        rises_apart (numbers bound tables tree v) (reduced.ascending v l) r s (omega (arith, n, lr))
        (omega (arith, n, ls)) e;
  }

module _ {R : Type 0} (d : ℕ) (key : R → KeyOf d 16) (bound : BoundQuery) (tables : List Table)
    (tree : List (NodeView R)) (formed : IsFormed d key tree)
    (reduced : HasReducedRows bound tables tree) where
  module _ (known : AreVariables bound.query.equalities bound.variables) where
    abbrev u : Problem (KeyOf (length bound.query.order) 16)
    u = problem_with bound.query tables (length tree) (parent tree) (item tree)

    -- ---- links

    up_inside : (q : ℕ) → 0 < q → q < length tree → parent tree q < length tree
    up_inside q some l = let low = early d key tree formed q some l in omega (arith, low, l)

    pub link_fits : (q r i : ℕ) → 0 < q → q < length tree → r < rows tree (parent tree q) → i < rows tree q
        → Contains (group tree q r) i
        → u.Fits q (number tree (parent tree q) r) (number tree q i)
    link_fits q r i some l lr li c =
        let own = row_passes bound tables tree reduced q i l li in
        let above = row_passes bound tables tree reduced (parent tree q) r (up_inside q some l) lr in (
          own,
          (match_iff bound.query tables bound.variables known (item tree q) (item tree (parent tree q))
              (number tree q i) (number tree (parent tree q) r) own.2 above.2).1
              ((reduced.named q r i some l lr).0 c).1,
        )

    fits_link : (q r i : ℕ) → 0 < q → q < length tree → r < rows tree (parent tree q) → i < rows tree q
        → u.Fits q (number tree (parent tree q) r) (number tree q i) → Contains (group tree q r) i
    fits_link q r i some l lr li fits =
        let above = row_passes bound tables tree reduced (parent tree q) r (up_inside q some l) lr in
        (reduced.named q r i some l lr).1 (
          li,
          (match_iff bound.query tables bound.variables known (item tree q) (item tree (parent tree q))
              (number tree q i) (number tree (parent tree q) r) (row_passes bound tables tree reduced q i l li).2 above.2).0 fits.1,
        )

    -- ---- groups

    pub together : (v g i j : ℕ) → v < length tree → i < rows tree v → j < rows tree v → Contains (members tree v g) i
        → Contains (members tree v g) j
        → u.IsGrouped v (number tree v i) (number tree v j)
    together v g i j l li lj ci cj = elim (cases_lt 0 v) [
      | inr none ↦ inl (omega (arith, none))
      | inl some ↦ inr ((equal_iff bound.query tables bound.variables known (item tree v) (item tree (parent tree v))
          (number tree v i) (number tree v j)
          (row_passes bound tables tree reduced v i l li).2 (row_passes bound tables tree reduced v j l lj).2).1
          ((reduced.groups v i j some l li lj).0 (g, ci, cj)))
    ]

    same_group : (v g h i : ℕ) → v < length tree → Contains (members tree v g) i → Contains (members tree v h) i → g ≡ h
    same_group v g h i l cg ch =
        one_group (rows tree v) (node_at tree v).groups (formed.grouped v l) g h cg.0 ch.0 cg.1 ch.1
        (get_or_default (members tree v g) cg.0 0 i cg.1 ∙ cg.2
        ∙ sym (get_or_default (members tree v h) ch.0 0 i ch.1 ∙ ch.2))

    pub joined : (v g i j : ℕ) → v < length tree → g < group_count tree v → i < rows tree v → j < rows tree v
        → Contains (members tree v g) i
        → u.IsGrouped v (number tree v j) (number tree v i) → Contains (members tree v g) j
    joined v g i j l lg li lj ci grouped =
        let own = group_of (rows tree v) (node_at tree v).groups (formed.grouped v l) j lj in
        elim (cases_lt 0 v) [
          | inr none ↦
              let root : v ≡ 0 = omega (arith, none) in
              let one : group_count tree v ≤ 1 = subst (λ z. group_count tree z ≤ 1) (sym root) formed.one_root in
              let same : own.0 ≡ g = omega (arith, one, lg, own.1) in
              subst (λ h. Contains (members tree v h) j) same own.2
          | inl some ↦ elim grouped [
            | inl root ↦ absurd (omega (arith, root, some))
            | inr equal ↦
                let share = (reduced.groups v j i some l lj li).1
                ((equal_iff bound.query tables bound.variables known (item tree v) (item tree (parent tree v))
                (number tree v j) (number tree v i)
                (row_passes bound tables tree reduced v j l lj).2
                (row_passes bound tables tree reduced v i l li).2).0 equal) in
                subst (λ h. Contains (members tree v h) j) (same_group v share.0 g i l share.2 ci) share.1
          ]
        ]

    -- ---- what is below what is below

    below_under : (v q f w : ℕ) → w ≤ f → w < length tree → v ≤ q → 0 < is_below (parent tree) v q
        → 0 < is_below (parent tree) q w → 0 < is_below (parent tree) v w
    below_under v q zero w e l from a b = elim (cases_eq w q) [
      | inl same ↦ subst (λ z. 0 < is_below (parent tree) v z) (sym same) a
      | inr other ↦ let z = below_less (length tree) (parent tree) (early d key tree formed) q w l
          (omega (arith, e, other)) in absurd (omega (arith, z, b))
    ]
    below_under v q (suc f) w e l from a b = elim (cases_eq w q) [
      | inl same ↦ subst (λ z. 0 < is_below (parent tree) v z) (sym same) a
      | inr other ↦ elim (cases_lt w q) [
        | inl less ↦ let z = below_less (length tree) (parent tree) (early d key tree formed) q w l less in absurd
            (omega (arith, z, b))
        | inr more ↦
            let after : q < w = omega (arith, more, other) in
            let low = early d key tree formed w (omega (arith, after)) l in
            let up = below_parent (length tree) (parent tree) (early d key tree formed) q w
            (omega (arith, after)) l other in
            let rest = below_under v q f (parent tree w) (omega (arith, low, e)) (omega (arith, low, l)) from a
            (omega (arith, up, b)) in
            let same = below_parent (length tree) (parent tree) (early d key tree formed) v w (omega (arith, after)) l
            (λ x. omega (arith, x, from, after)) in
            omega (arith, same, rest)
      ]
    ]

    -- ---- a solution's rows are rows of the tree

    module _ (v : ℕ) (s : ℕ → ℕ) (sub : IsSubtree u v s) where
      is_row : (q : ℕ) → v ≤ q → IsUnder tree v q → RowPasses bound tables tree q (s q)
      is_row q from under = elim (cases_eq q v) [
        | inl same ↦ subst (λ z. RowPasses bound tables tree z (s z)) (sym same) sub.first
        | inr other ↦ (sub.others q (omega (arith, from, other)) under.0 under.1).0
      ]

      agrees : (w : ℕ) → v < w → IsUnder tree v w → RowsJoined bound tables tree w (s (parent tree w)) (s w)
      agrees w after under =
          let fits = sub.others w after under.0 under.1 in
          let up = parent_under d key tree formed v sub.node w after under in
          let above = is_row (parent tree w) (under_from d key tree formed v sub.node (parent tree w) up) up in (
            fits.0,
            inr ((match_iff bound.query tables bound.variables known (item tree w) (item tree (parent tree w)) (s w)
                (s (parent tree w)) fits.0.2 above.2).0 fits.1),
          )

      extends : (q : ℕ) → v ≤ q → IsUnder tree v q
          → Extends (length tree) (parent tree) (RowsJoined bound tables tree) q (s q)
      extends q from under = (
        s,
        refl,
        λ w after l some. agrees w (omega (arith, from, after))
            (l, below_under v q w w (omega arith) l from under.1 some),
      )

      abbrev pub place : ℕ → ℕ
      place q = place_of (s q) (numbers bound tables tree q)

      at_place : (q : ℕ) → v ≤ q → IsUnder tree v q
          → (place_of (s q) (numbers bound tables tree q) < length (numbers bound tables tree q))
          × (slice_index (numbers bound tables tree q) (place_of (s q) (numbers bound tables tree q)) ≡ s q)
      at_place q from under = member_place (s q) (numbers bound tables tree q)
          ((reduced.members q (s q) under.0).1 (is_row q from under, extends q from under))

      pub place_there : (q : ℕ) → IsUnder tree v q → place_of (s q) (numbers bound tables tree q) < rows tree q
      place_there q under =
          omega (arith, number_size bound tables tree reduced q, (at_place q (under_from d key tree formed v sub.node q under) under).0)

      pub place_number : (q : ℕ) → IsUnder tree v q → number tree q (place_of (s q) (numbers bound tables tree q)) ≡ s q
      place_number q under = (at_place q (under_from d key tree formed v sub.node q under) under).1

      pub place_linked : (q : ℕ) → v < q → IsUnder tree v q
          → Contains (group tree q (place_of (s (parent tree q)) (numbers bound tables tree (parent tree q))))
          (place_of (s q) (numbers bound tables tree q))
      place_linked q after under =
          let up = parent_under d key tree formed v sub.node q after under in
          fits_link q (place (parent tree q)) (place q) (omega (arith, after)) under.0
          (place_there (parent tree q) up) (place_there q under)
          (subst (λ above. u.Fits q above (number tree q (place q))) (sym (place_number (parent tree q) up))
          (subst (λ row. u.Fits q (s (parent tree q)) row) (sym (place_number q under))
          (sub.others q after under.0 under.1)))

    -- ---- keys

    module _ (few : length bound.query.order ≤ d)
        (ranks : (v r : ℕ) → v < length tree → r < rows tree v
        → rank tree d key v r ≡ row_key d
        (map (part_of tables bound.query.items (item tree v) (number tree v r)) bound.query.order) (item tree v)
        (number tree v r)) where
      row_wide : (q r : ℕ) → q < length tree → r < rows tree q
          → wide (length bound.query.order) d 16 (row_rank bound.query tables (item tree q) (number tree q r))
          ≡ rank tree d key q r
      row_wide q r l row =
          let parts = map (part_of tables bound.query.items (item tree q) (number tree q r)) bound.query.order in
          let n = length-map bound.query.order (part_of tables bound.query.items (item tree q) (number tree q r)) in
          wide_lists (length bound.query.order) d 16 few parts
          (slice_set (replicate 16 0) (item tree q) (number tree q r)) (omega (arith, n)) ∙ sym (ranks q r l row)

      -- the sum of a solution's keys is that of the tree's
      pub sum_wide : (v : ℕ) (s chosen : ℕ → ℕ)
          → ((q : ℕ) → IsUnder tree v q → (chosen q < rows tree q) × (number tree q (chosen q) ≡ s q))
          → wide (length bound.query.order) d 16 (subtree_key u v s) ≡ chosen_key d key tree formed chosen v
      sum_wide v s chosen each =
          wide_sum (length bound.query.order) d few
          (λ q. cond (nat_eq (is_below (parent tree) v q) 1) (u.key q (s q)) u.none) (length tree) 0
          ∙ sum_same (key_below d 16) (key_add d 16) (key_none d 16) (tuple_keys d 16)
          (λ q. wide (length bound.query.order) d 16
          (cond (nat_eq (is_below (parent tree) v q) 1) (u.key q (s q)) u.none))
          (λ q. cond (nat_eq (is_below (parent tree) v q) 1) (rank tree d key q (chosen q)) (key_none d 16))
          (length tree) 0
          (λ q a b.
          wide_cond (length bound.query.order) d few (nat_eq (is_below (parent tree) v q) 1) (u.key q (s q))
          ∙ elim (cases_eq (is_below (parent tree) v q) 1) [
            | inl one ↦
                let l : q < length tree = omega (arith, b) in
                let at = each q (l, omega (arith, one)) in
                ap (λ k. cond (nat_eq (is_below (parent tree) v q) 1) k (key_none d 16))
                (ap (λ row. wide (length bound.query.order) d 16 (row_rank bound.query tables (item tree q) row))
                (sym at.1) ∙ row_wide q (chosen q) l at.0)
            | inr not ↦
                pick_ne (is_below (parent tree) v q) 1 _ (key_none d 16) not
                ∙ sym (pick_ne (is_below (parent tree) v q) 1 (rank tree d key q (chosen q)) (key_none d 16) not)
          ])

    -- ---- first solutions

    pub items_of : HasItems u 16
    items_of = record {
      within = items_within d key tree formed 0
          (omega (arith, formed.shaped.some_node));
      apart = items_apart_lem d key tree formed 0
          (omega (arith, formed.shaped.some_node));
    }

    module _ (v g : ℕ) (node : v < length tree) (there : g < group_count tree v) (numbers : List ℕ)
        (first : IsFirst tree v g numbers) where
      -- the numbers of the rows that are chosen
      pub first_subtree : IsSubtree u v (λ q. number tree q (first.chosen q))
      first_subtree = record {
        node = node;
        first = row_passes bound tables tree reduced v (first.chosen v) node
            (row_there d key tree formed v node g there numbers first v (itself d key tree formed v node));
        others = λ q after l some.
            let under : IsUnder tree v q = (l, some) in
            let up = parent_under d key tree formed v node q after under in
            let above = row_there d key tree formed v node g there numbers first (parent tree q) up in
            let here = first_inside d key tree formed q (first.chosen (parent tree q)) (omega (arith, after)) l above in
            link_fits q (first.chosen (parent tree q)) (first.chosen q) (omega (arith, after)) l above
            (row_there d key tree formed v node g there numbers first q under) (
              0,
              here.0,
              get_or_default (group tree q (first.chosen (parent tree q))) 0 (first.chosen q) 0 here.0
                  ∙ sym (first.named q after under),
            );
      }

      pub first_listed : (laws : IsProblem u)
          → IsListOf u laws 16 items_of v (λ q. number tree q (first.chosen q)) (listed numbers)
      first_listed laws = record {
        count = listed_count (length tree) (λ q. is_below (parent tree) v q) (item tree) 16
            (once d key tree formed v node) (items_within d key tree formed v node)
            (items_apart_lem d key tree formed v node)
            numbers first.count (positive d key tree formed v node g there numbers first
            (told bound tables tree reduced))
            (absent d key tree formed v node g there numbers first (told bound tables tree reduced));
        row = λ q l one.
            listed_place (length tree) (λ q. is_below (parent tree) v q) (item tree) 16
            (once d key tree formed v node) (items_within d key tree formed v node)
            (items_apart_lem d key tree formed v node)
            numbers first.count (positive d key tree formed v node g there numbers first
            (told bound tables tree reduced))
            (absent d key tree formed v node g there numbers first (told bound tables tree reduced)) q l
            (omega (arith, one))
            ∙ first.own q (l, omega (arith, one));
      }
