-- What a well-formed tree is for the theory of ranked enumeration.
use Rattle.std.proofs.Common.{◌≡◌, ◌≢◌, ◌⊎◌, ℕ, zero, suc, ◌+◌, ◌-◌, ◌<◌, ◌≤◌, Bool, true, false, cond, nat_eq, List, [], ◌∷◌, ◌++◌, length, map, get_or, unsigned_abs, refl, sym, ap, subst, ◌∙◌, inl, inr, arith}
use Rattle.std.proofs.lemmas.Bool.{cases_lt, cases_eq, eq-eqb, ne_eqb, cond-true, cond-false}
use Rattle.std.proofs.lemmas.List.{length-map, get_or_past}
use Rattle.tdp_model.specs.KeyTuple.{KeyOf, key_below, key_add, key_none, slot_of}
use Rattle.tdp_model.specs.KeyNumbers.{sum_of}
use Rattle.tdp_model.specs.TreeProblem.{sum_from, bound_of, IsAbove, IsTree, IsTieFree, IsReached, RowHas, PartHas}
use Rattle.tdp_model.proofs.KeyTuples.{slot_of_add, slot_of_none, tuple_keys}
use Rattle.tdp_model.proofs.KeyNumbers.{sum_of_none}
use Rattle.rank_key.specs.Keys.{IsHeld, KeyFits, CanSwap}
use Rattle.tdp_model.specs.Remains.{AtMost}
use Rattle.tdp_model.proofs.LeastKeys.{least_had, least_at_most}
use Rattle.tdp_core.proofs.KeyRanges.{rank_had, subtree_fits, part_fits, swap_fits}
use Rattle.tdp_core.specs.TreeView.{NodeView, node_at, parent, item, cap, rows, number, child_place, group_count, members, group_named, group_number, group, rank, best}
use Rattle.tdp_core.specs.Solutions.{IsLeastKey}
use Rattle.tdp_core.specs.WellFormed.{IsFormed, RowFits, IsTieFreeTree}
use Rattle.tdp_core.proofs.GroupMembers.{group_within, groups_within, member_below, members_distinct}

pub term_within : (f : ℕ → ℕ) (n q v : ℕ) → q ≤ v → v < q + n → f v ≤ sum_from ◌+◌ 0 f n q
unfolding sum_from
term_within f zero q v a b = absurd (omega arith)
term_within f (suc n) q v a b = elim (cases_eq q v) [
  | inl e ↦ omega (arith, ap f e)
  | inr d ↦ omega (arith, term_within f n (suc q) v (omega arith) (omega arith))
]

module _ {R : Type 0} (d : ℕ) (key : R → KeyOf d 16) (t : List (NodeView R)) (formed : IsFormed d key t) where
  pub rows_within : (v : ℕ) → v < length t → rows t v ≤ 4194304
  rows_within v l = omega (arith, term_within (rows t) (length t) 0 v (omega arith) (omega arith), formed.few_rows)

  pub group_rows_within : (v g : ℕ) → v < length t → length (members t v g) ≤ rows t v
  group_rows_within v g l = group_within (rows t v) (node_at t v).groups (formed.grouped v l) g

  pub group_count_within : (v : ℕ) → v < length t → group_count t v ≤ rows t v
  group_count_within v l = groups_within (rows t v) (node_at t v).groups (formed.grouped v l) (λ g h. formed.inhabited v g l h)

  pub member_is_row : (v g i : ℕ) → v < length t → i < length (members t v g) → get_or (members t v g) i 0 < rows t v
  member_is_row v g i l h = member_below (rows t v) (node_at t v).groups (formed.grouped v l) g i h

  pub members_apart : (v g i j : ℕ) → v < length t → i < length (members t v g) → j < length (members t v g) → get_or (members t v g) i 0 ≡ get_or (members t v g) j 0 → i ≡ j
  members_apart v g i j l h k e = members_distinct (rows t v) (node_at t v).groups (formed.grouped v l) g i j h k e

  -- the number of the group of node q below row r of its parent
  pub group_number_within : (q r : ℕ) → 0 < group_count t 0 → q < length t → IsAbove (parent t) (λ v s. s < rows t v) q r → group_number t q r < group_count t q
  group_number_within q r live l above = elim (cases_eq q 0) [
    | inl z ↦ subst (λ p. group_number t p r < group_count t p) (sym z) live
    | inr n ↦ subst (λ g. g < group_count t q) (sym (cond-false (nat_eq q 0) 0 (group_named t (parent t q) r (child_place t q)) (ne_eqb q 0 n))) (formed.named q r (omega arith) l (row_above n above))
  ]
    where
      row_above : q ≢ 0 → IsAbove (parent t) (λ v s. s < rows t v) q r → r < rows t (parent t q)
      row_above n (inl z) = absurd (n z)
      row_above n (inr h) = h

  named_within : (q r : ℕ) → 0 < q → q < length t → r < rows t (parent t q) → group_number t q r < group_count t q
  named_within q r some l row =
      subst (λ g. g < group_count t q) (sym (cond-false (nat_eq q 0) 0 (group_named t (parent t q) r (child_place t q)) (ne_eqb q 0 (λ e. omega arith)))) (formed.named q r some l row)

  -- `best` is had, and is the least key of the row's subtree solutions, whether or not the tree is live
  pub best_had : (depth v r : ℕ) → length t ≤ depth + v → v < length t → r < rows t v
      → RowHas (key_add d 16) (key_none d 16) (length t) (parent t) (rank t d key) (group t) depth v r (best t d key v r)
  best_had = least_had (key_below d 16) (key_add d 16) (key_none d 16) (tuple_keys d 16) (length t) (parent t) (rank t d key) (group t) (best t d key) (λ v r. r < rows t v)
      (λ q r i some l row h. member_is_row q (group_number t q r) i l h)
      (λ q r some l row. formed.inhabited q (group_number t q r) l (named_within q r some l row))
      (λ q r i some l row p h. formed.heaps q (group_number t q r) i l p h)
      formed.bests

  pub best_least : (depth v r : ℕ) (k : KeyOf d 16) → v < length t → r < rows t v
      → RowHas (key_add d 16) (key_none d 16) (length t) (parent t) (rank t d key) (group t) depth v r k → AtMost (key_below d 16) (best t d key v r) k
  best_least = least_at_most (key_below d 16) (key_add d 16) (key_none d 16) (tuple_keys d 16) (length t) (parent t) (rank t d key) (group t) (best t d key) (λ v r. r < rows t v)
      (λ q r i some l row h. member_is_row q (group_number t q r) i l h)
      (λ q r some l row. formed.inhabited q (group_number t q r) l (named_within q r some l row))
      (λ q r i some l row p h. formed.heaps q (group_number t q r) i l p h)
      formed.bests

  pub best_is_least : (v r : ℕ) → v < length t → r < rows t v → IsLeastKey t d key v r (best t d key v r)
  best_is_least v r l row = record { had = best_had (length t) v r (omega arith) l row; least = λ k h. best_least (length t) v r k l row h }

  -- A live tree is well formed as the theory has it.
  pub tree_of : 0 < group_count t 0 → IsTree (KeyOf d 16) (key_below d 16) (key_add d 16) (key_none d 16) (length t) (parent t) (rank t d key) (group t) (best t d key) (λ v r. r < rows t v)
  tree_of live = record {
    parents_first = formed.shaped.parents_first;
    rows = λ q r i l above h. member_is_row q (group_number t q r) i l h;
    distinct = λ q r l above i j h k e. members_apart q (group_number t q r) i j l h k e;
    inhabited = λ q r l above. formed.inhabited q (group_number t q r) l (group_number_within q r live l above);
    heap = λ q r i l above some h. formed.heaps q (group_number t q r) i l some h;
    bests = λ v r l row. formed.bests v r l row;
  }

  slot_at : (v r i : ℕ) → v < length t → i < 16 → slot_of d 16 i (rank t d key v r) ≡ cond (nat_eq i (item t v)) (number t v r) 0
  slot_at v r i l h = elim (cases_lt r (rows t v)) [
    | inl in_range ↦ (formed.rows_fit v r l in_range).slots i h
    | inr past ↦
        let no_rank : rank t d key v r ≡ key_none d 16 = get_or_past (map (λ x. key x.rank) (node_at t v).rows) r (key_none d 16) (omega (arith, length-map (node_at t v).rows (λ x. key x.rank))) in
        let no_number : number t v r ≡ 0 = get_or_past (map (λ x. x.row) (node_at t v).rows) r 0 (omega (arith, length-map (node_at t v).rows (λ x. x.row))) in
        ap (slot_of d 16 i) no_rank ∙ slot_of_none d 16 i ∙ sym (ap (λ z. cond (nat_eq i (item t v)) z 0) no_number ∙ same_zero (nat_eq i (item t v)))
  ]
    where
      same_zero : (b : Bool) → cond {A = ℕ} b 0 0 ≡ 0
      same_zero true = refl
      same_zero false = refl

  -- each row, and the zeros past the last one, are within what the shapes allow
  pub ranked_of : (v r : ℕ) → v < length t → RowFits d (item t v) (cap t v) (number t v r) (rank t d key v r)
  ranked_of v r l = elim (cases_lt r (rows t v)) [
    | inl in_range ↦ formed.rows_fit v r l in_range
    | inr past ↦
        let no_rank : rank t d key v r ≡ key_none d 16 = get_or_past (map (λ x. key x.rank) (node_at t v).rows) r (key_none d 16) (omega (arith, length-map (node_at t v).rows (λ x. key x.rank))) in
        record {
          sums = λ i h. omega (arith, ap (λ k. unsigned_abs (sum_of d 16 i k)) no_rank, ap unsigned_abs (sum_of_none d 16 i));
          slots = λ i h. slot_at v r i l h;
        }
  ]

  key_had : (v r : ℕ) → (rank t d key v r ≡ key_none d 16) ⊎ IsHeld d key (rank t d key v r)
  key_had v r = rank_had d key (node_at t v).rows r

  -- A tree without equal row numbers in a group is tie-free as the theory has it.
  pub tie_free_of : IsTieFreeTree t → IsTieFree (KeyOf d 16) (key_add d 16) (key_none d 16) (length t) (rank t d key) (group t) (item t) (number t) (slot_of d 16)
  tie_free_of apart = record {
    slot_add = slot_of_add d 16;
    slot_none = slot_of_none d 16;
    slot_own = λ v r l. slot_at v r (item t v) l (formed.shaped.items v l) ∙ cond-true (nat_eq (item t v) (item t v)) (number t v r) 0 (eq-eqb (item t v) (item t v) refl);
    slot_other = λ u v r h l n.
        slot_at v r (item t u) l (formed.shaped.items u h)
        ∙ cond-false (nat_eq (item t u) (item t v)) (number t v r) 0 (ne_eqb (item t u) (item t v) (λ e. n (formed.shaped.items_apart u v h l e)));
    numbered_apart = λ q r i j l h k e. apart q (group_number t q r) i j l h k e;
  }

  -- what joins and swaps of keys ask
  pub subtree_key_fits : (depth v r : ℕ) (k : KeyOf d 16) → v < length t → RowHas (key_add d 16) (key_none d 16) (length t) (parent t) (rank t d key) (group t) depth v r k → KeyFits d key k
  subtree_key_fits = subtree_fits d key (length t) (parent t) (item t) (cap t) (number t) (rank t d key) formed.shaped formed.held ranked_of key_had (group t)

  pub part_key_fits : (depth v r n : ℕ) (k : KeyOf d 16) → v < length t → n ≤ length t - suc v → PartHas (key_add d 16) (key_none d 16) (length t) (parent t) (rank t d key) (group t) depth v r n k → KeyFits d key k
  part_key_fits = part_fits d key (length t) (parent t) (item t) (cap t) (number t) (rank t d key) formed.shaped formed.held ranked_of key_had (group t)

  pub can_swap : 0 < group_count t 0 → (n : ℕ) (pre : List ℕ) (x y : ℕ) → IsReached (length t) (λ v r. r < rows t v) (suc n) pre → x < rows t (length pre) → y < rows t (length pre)
      → CanSwap d key (bound_of (key_add d 16) (key_none d 16) (length t) (parent t) (rank t d key) (group t) (best t d key) (pre ++ (x ∷ []))) (best t d key (length pre) x) (best t d key (length pre) y)
  can_swap live =
      swap_fits d key (length t) (parent t) (item t) (cap t) (number t) (rank t d key) formed.shaped formed.held ranked_of key_had (group t) (best t d key) (λ v r. r < rows t v) (tree_of live)
