-- Trees whose later nodes have their least keys.
use Rattle.std.proofs.Common.{◌≡◌, ℕ, zero, suc, ◌+◌, ◌-◌, ◌<◌, ◌≤◌, Bool, true, false, cond, nat_eq, List, [], length, map, get_or, unsigned_abs, refl, sym, ap, subst, ◌∙◌, inl, inr, arith}
use Rattle.std.proofs.lemmas.Bool.{cases_lt, ne_eqb, cond-false}
use Rattle.std.specs.List.{concat, range_with_len}
use Rattle.std.proofs.lemmas.List.{length-map, get_or_past}
use Rattle.std.proofs.lemmas.List.FromFn.{length-range_with_len}
use Rattle.std.proofs.lemmas.List.Sorted.{length_permutation}
use Rattle.tdp_model.specs.KeyTuple.{KeyOf, key_below, key_add, key_none, slot_of}
use Rattle.tdp_model.specs.KeyNumbers.{sum_of}
use Rattle.tdp_model.specs.TreeProblem.{least_of, kid_part, kid_key, RowHas}
use Rattle.tdp_model.proofs.KeyTuples.{tuple_keys, slot_of_none}
use Rattle.tdp_model.proofs.KeyNumbers.{sum_of_none}
use Rattle.rank_key.specs.Keys.{KeyFits}
use Rattle.tdp_core.specs.TreeView.{NodeView, node_at, parent, item, cap, rows, number, kids_below, child_place, group_count, members, group_named, group_number, group, rank, best}
use Rattle.tdp_core.specs.WellFormed.{RowFits}
use Rattle.tdp_core.proofs.Children.{kids_below_first, kids_below_other, child_place_within}
use Rattle.tdp_core.proofs.GroupMembers.{member_below}
use Rattle.tdp_core.proofs.KeyRanges.{part_fits, rank_had}
use Rattle.tdp_model.proofs.LeastKeys.{least_had}
use Rattle.tdp_core.specs.WellFormed.{IsLaidOut}
use Rattle.tree_dp.specs.Progress.{IsSolvedFrom}
use Rattle.tree_dp.proofs.FirstParts.{first_part}

-- no node up to v is a child of v
pub no_kids_yet : (parents : ℕ → ℕ) (m v n : ℕ) → ((q : ℕ) → 0 < q → q < m → parents q < q) → v < m → n ≤ v → kids_below parents v (n + 1) ≡ 0
no_kids_yet parents m v zero first l h = kids_below_first parents v
no_kids_yet parents m v (suc n) first l h =
    let next : suc n + 1 ≡ suc (n + 1) = omega arith in
    let last : suc n ≡ n + 1 = omega arith in
    let above = first (n + 1) (omega arith) (omega arith) in
    ap (λ k. kids_below parents v (k + 1)) last ∙ kids_below_other parents v (n + 1) (λ e. omega (arith, above, e)) ∙ no_kids_yet parents m v n first l (omega arith)

module _ {R : Type 0} (d : ℕ) (key : R → KeyOf d 16) (t : List (NodeView R)) (laid : IsLaidOut d key t) where
  pub member_row : (v g i : ℕ) → v < length t → i < length (members t v g) → get_or (members t v g) i 0 < rows t v
  member_row v g i l h = member_below (rows t v) (node_at t v).groups (laid.grouped v l) g i h

  -- the groups of a node have its rows
  pub members_total : (v : ℕ) → v < length t → length (concat (node_at t v).groups) ≡ rows t v
  members_total v l = length_permutation (range_with_len 0 (rows t v)) (concat (node_at t v).groups) (laid.grouped v l) ∙ length-range_with_len 0 (rows t v)

  -- a child's place is one for which the rows of its parent name a group
  pub child_within : (v r q : ℕ) → 0 < q → q < length t → v < length t → parent t q ≡ v → r < rows t v → kids_below (parent t) v q < length (get_or (node_at t v).to_child r [])
  child_within v r q some l up is row =
      let whole : (length t - (q + 1)) + (q + 1) ≡ length t = omega arith in
      let below : kids_below (parent t) (parent t q) q < kids_below (parent t) (parent t q) (length t) =
      subst (λ m. kids_below (parent t) (parent t q) q < kids_below (parent t) (parent t q) m) whole (child_place_within (parent t) q (length t - (q + 1)) some)
      in
      subst (λ n. kids_below (parent t) v q < n) (sym (laid.name_all v r up row)) (subst (λ p. kids_below (parent t) p q < kids_below (parent t) p (length t)) is below)

  -- the group that a row names for a child
  pub group_is : (v r q : ℕ) → 0 < q → parent t q ≡ v → group t q r ≡ members t q (group_named t v r (kids_below (parent t) v q))
  group_is v r q some is =
      ap (members t q) (cond-false (nat_eq q 0) 0 (group_named t (parent t q) r (child_place t q)) (ne_eqb q 0 (λ e. omega arith)))
      ∙ ap (λ p. members t q (group_named t p r (kids_below (parent t) p q))) is

  pub group_within : (v r q : ℕ) → 0 < q → q < length t → parent t q ≡ v → r < rows t v → group_named t v r (kids_below (parent t) v q) < group_count t q
  group_within v r q some l is row =
      subst (λ p. group_named t p r (kids_below (parent t) p q) < group_count t q) is (laid.named q r some l (subst (λ p. r < rows t p) (sym is) row))

  group_inhabited : (v r q : ℕ) → 0 < q → q < length t → parent t q ≡ v → r < rows t v → 0 < length (group t q r)
  group_inhabited v r q some l is row = subst (λ g. 0 < length g) (sym (group_is v r q some is)) (laid.inhabited q _ l (group_within v r q some l is row))

  same_zero : (b : Bool) → cond {A = ℕ} b 0 0 ≡ 0
  same_zero true = refl
  same_zero false = refl

  -- each row, and the zeros past the last one, are within what the shapes allow
  row_fits : (v r : ℕ) → v < length t → RowFits d (item t v) (cap t v) (number t v r) (rank t d key v r)
  row_fits v r l = elim (cases_lt r (rows t v)) [
    | inl in_range ↦ laid.rows_fit v r l in_range
    | inr past ↦
        let no_rank : rank t d key v r ≡ key_none d 16 = get_or_past (map (λ x. key x.rank) (node_at t v).rows) r (key_none d 16) (omega (arith, length-map (node_at t v).rows (λ x. key x.rank))) in
        let no_number : number t v r ≡ 0 = get_or_past (map (λ x. x.row) (node_at t v).rows) r 0 (omega (arith, length-map (node_at t v).rows (λ x. x.row))) in
        record {
          sums = λ i h. omega (arith, ap (λ k. unsigned_abs (sum_of d 16 i k)) no_rank, ap unsigned_abs (sum_of_none d 16 i));
          slots = λ i h. ap (slot_of d 16 i) no_rank ∙ slot_of_none d 16 i ∙ sym (ap (λ z. cond (nat_eq i (item t v)) z 0) no_number ∙ same_zero (nat_eq i (item t v)));
        }
  ]

  module _ (v : ℕ) (solved : IsSolvedFrom d key t (suc v)) where
    -- the best of a row of a later node is the key of a subtree solution
    later_had : (depth q r : ℕ) → length t ≤ depth + q → q < length t → v < q → r < rows t q
        → RowHas (key_add d 16) (key_none d 16) (length t) (parent t) (rank t d key) (group t) depth q r (best t d key q r)
    later_had depth q r e l after row =
        least_had (key_below d 16) (key_add d 16) (key_none d 16) (tuple_keys d 16) (length t) (parent t) (rank t d key) (group t) (best t d key) (λ u s. (v < u) × (s < rows t u))
        (λ u s i some h up k. (omega (arith, up.0, laid.shaped.parents_first u some h), member_row u (group_number t u s) i h k))
        (λ u s some h up. group_inhabited (parent t u) s u some h refl up.1)
        (λ u s i some h up p k. solved.heaps u (group_number t u s) i (omega (arith, up.0, laid.shaped.parents_first u some h)) h p k)
        (λ u s h up. solved.bests u s (omega (arith, up.0)) h up.1)
        depth q r e l (after, row)

    -- a row with the least keys of its first children is the key of a part of a subtree solution, so it fits
    pub first_part_fits : (r n : ℕ) → v < length t → n ≤ length t - suc v → r < rows t v
        → KeyFits d key (first_part (key_below d 16) (key_add d 16) (key_none d 16) (tuple_keys d 16) (length t) (parent t) (rank t d key) (group t) (best t d key) v r n)
    unfolding kid_part kid_key
    first_part_fits r n l few row =
        part_fits d key (length t) (parent t) (item t) (cap t) (number t) (rank t d key) laid.shaped laid.held row_fits (λ u s. rank_had d key (node_at t u).rows s) (group t) (length t) v r n
        (first_part (key_below d 16) (key_add d 16) (key_none d 16) (tuple_keys d 16) (length t) (parent t) (rank t d key) (group t) (best t d key) v r n)
        l few (
          (λ q. least_of (key_add d 16) (key_none d 16) (length t) (parent t) (rank t d key) (group t) (best t d key) q r),
          (λ q a b e.
              let inside : q < length t = omega arith in
              let some : 0 < length (group t q r) = group_inhabited v r q (omega arith) inside e row in
              (0, some, later_had (length t) q (get_or (group t q r) 0 0) (omega arith) inside a (member_row q (group_number t q r) 0 inside some))),
          refl,
        )
