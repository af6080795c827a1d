-- The rows at place 0 of the groups that the rows chosen before name.
use Rattle.std.proofs.Common.{◌≡◌, ℕ, zero, suc, ◌+◌, ◌-◌, ◌<◌, ◌≤◌, false, cond, nat_eq, nat_lt, List, [], ◌∷◌, ◌++◌, length, get_or, take, refl, sym, ap, subst, ◌∙◌, inl, inr, arith}
use Rattle.std.proofs.Math.ListN.{set}
use Rattle.std.specs.List.{concat, range_with_len}
use Rattle.std.proofs.lemmas.List.Sorted.{length_permutation}
use Rattle.std.proofs.lemmas.List.FromFn.{length-range_with_len}
use Rattle.std.proofs.lemmas.Bool.{cases_eq, cases_lt, eq-eqb, ne_eqb, cond-true, cond-false}
use Rattle.std.proofs.lemmas.Bool.Decides.{nat_tests}
use Rattle.std.proofs.lemmas.List.{get_or-take, length-take-le, take_more_set, ext_get_or, get_or-set_same, get_or-set_other}
use Rattle.tdp_model.specs.KeyTuple.{KeyOf, key_below, key_add, key_none, slot_of}
use Rattle.tdp_model.specs.TreeProblem.{sum_from, least_of, open_part, bound_of, members_after, rows_key, IsReached}
use Rattle.tdp_model.proofs.KeyTuples.{tuple_keys, slot_of_add, slot_of_none}
use Rattle.tdp_model.proofs.Sums.{get_front, get_end, length_end, none_add, sum_same, sum_last}
use Rattle.tdp_model.proofs.Ties.{slot_zero}
use Rattle.tdp_model.proofs.TreeStaged.{tree_staged, other_of, bound_parts, bound_whole}
use Rattle.tdp_core.specs.AnswerView.{rows_of_key}
use Rattle.tdp_core.specs.TreeView.{NodeView, node_at, parent, item, rows, number, group_count, group, rank, best}
use Rattle.tdp_core.specs.WellFormed.{IsFormed, IsTieFreeTree}
use Rattle.tdp_core.proofs.AnswerFacts.{rows_of_key_length, rows_of_key_at}
use Rattle.tdp_core.proofs.TreeFacts.{tree_of, tie_free_of, ranked_of}

module _ {R : Type 0} (d : ℕ) (key : R → KeyOf d 16) (t : List (NodeView R)) where
  -- the least key of a solution that begins with these rows
  abbrev pub least_with : List ℕ → KeyOf d 16
  least_with pre = bound_of (key_add d 16) (key_none d 16) (length t) (parent t) (rank t d key) (group t) (best t d key) pre

  -- the sum of the rows' keys
  abbrev pub key_of_rows : List ℕ → KeyOf d 16
  key_of_rows pre = rows_key (key_add d 16) (key_none d 16) (rank t d key) pre

  pub no_slots : (i : ℕ) → slot_of d 16 i (key_of_rows []) ≡ 0
  unfolding sum_from
  no_slots i = slot_of_none d 16 i

  key_push : (pre : List ℕ) (r : ℕ) → key_of_rows (pre ++ (r ∷ [])) ≡ key_add d 16 (key_of_rows pre) (rank t d key (length pre) r)
  key_push pre r =
      subst (λ n. sum_from (key_add d 16) (key_none d 16) (λ q. rank t d key q (get_or (pre ++ (r ∷ [])) q 0)) n 0 ≡ key_add d 16 (key_of_rows pre) (rank t d key (length pre) r)) (sym (length_end pre r))
      (sum_last (key_below d 16) (key_add d 16) (key_none d 16) (tuple_keys d 16) (λ q. rank t d key q (get_or (pre ++ (r ∷ [])) q 0)) (length pre) 0 (length pre) (omega arith)
      ∙ ap (λ z. key_add d 16 z (rank t d key (length pre) (get_or (pre ++ (r ∷ [])) (length pre) 0)))
      (sum_same (key_below d 16) (key_add d 16) (key_none d 16) (tuple_keys d 16) (λ q. rank t d key q (get_or (pre ++ (r ∷ [])) q 0)) (λ q. rank t d key q (get_or pre q 0)) (length pre) 0
      (λ i l h. ap (λ z. rank t d key i z) (get_front pre (r ∷ []) i (omega arith))))
      ∙ ap (λ z. key_add d 16 (key_of_rows pre) (rank t d key (length pre) z)) (get_end pre r (length pre) refl))

  none_open : (n q : ℕ) → 0 < q → sum_from (key_add d 16) (key_none d 16) (open_part (key_add d 16) (key_none d 16) (length t) (parent t) (rank t d key) (group t) (best t d key) 0 []) n q ≡ key_none d 16
  unfolding sum_from open_part
  none_open zero q some = refl
  none_open (suc n) q some =
      let least = least_of (key_add d 16) (key_none d 16) (length t) (parent t) (rank t d key) (group t) (best t d key) q 0 in
      ap (λ z. key_add d 16 z (sum_from (key_add d 16) (key_none d 16) (open_part (key_add d 16) (key_none d 16) (length t) (parent t) (rank t d key) (group t) (best t d key) 0 []) n (suc q)))
      (cond-false (nat_eq q 0) least (cond (nat_lt (parent t q) 0) least (key_none d 16)) (ne_eqb q 0 (λ e. omega arith)) ∙ cond-false (nat_lt (parent t q) 0) least (key_none d 16) (none_below (parent t q)))
      ∙ none_add (key_below d 16) (key_add d 16) (key_none d 16) (tuple_keys d 16) _
      ∙ none_open n (suc q) (omega arith)
    where
      none_below : (x : ℕ) → nat_lt x 0 ≡ false
      none_below x = grind (arith, nat_tests)

  module _ (formed : IsFormed d key t) where
    -- a row of the root makes the tree live
    pub root_lives : (r : ℕ) → r < rows t 0 → 0 < group_count t 0
    root_lives r some = elim (cases_lt 0 (group_count t 0)) [
      | inl live ↦ live
      | inr dead ↦
          let same = length_permutation (range_with_len 0 (rows t 0)) (concat (node_at t 0).groups) (formed.grouped 0 (omega (arith, formed.shaped.some_node))) in
          absurd (omega (arith, some, same, length-range_with_len 0 (rows t 0), none_in (node_at t 0).groups dead))
    ]
      where
        none_in : (gs : List (List ℕ)) → length gs ≤ 0 → length (concat gs) ≡ 0
        none_in [] none = refl
        none_in (g ∷ gs) none = absurd (omega arith)

    -- with a row of the root chosen, the least key is that row's best
    pub walk_begins : (chosen : List ℕ) (row : ℕ) → 0 < length chosen → row < rows t 0 → least_with (take 1 (set chosen 0 row)) ≡ best t d key 0 row
    unfolding other_of sum_from
    walk_begins chosen row room some =
        let live = root_lives row some in
        ap least_with (take_more_set chosen 0 row room)
        ∙ bound_parts (key_below d 16) (key_add d 16) (key_none d 16) (tuple_keys d 16) (length t) (parent t) (rank t d key) (group t) (best t d key) (λ v r. r < rows t v) (tree_of d key t formed live)
        (length t - 1) [] row (omega (arith, formed.shaped.some_node)) some
        ∙ ap (λ z. key_add d 16 z (best t d key 0 row)) (none_add (key_below d 16) (key_add d 16) (key_none d 16) (tuple_keys d 16) _ ∙ none_open (length t - 1) 1 (omega arith))
        ∙ none_add (key_below d 16) (key_add d 16) (key_none d 16) (tuple_keys d 16) (best t d key 0 row)

    module _ (live : 0 < group_count t 0) (chosen : List ℕ) (q row : ℕ) (inside : q < length t) (room : q < length chosen) where
      taken : length (take q chosen) ≡ q
      taken = length-take-le q chosen (omega arith)

      group_before : group t q (get_or (take q chosen) (parent t q) 0) ≡ group t q (get_or chosen (parent t q) 0)
      group_before = elim (cases_lt 0 q) [
        | inl some ↦ ap (group t q) (get_or-take q chosen (parent t q) 0 (formed.shaped.parents_first q some inside))
        | inr none ↦
            let zero_is : 0 ≡ q = omega arith in
            subst (λ z. group t z (get_or (take z chosen) (parent t z) 0) ≡ group t z (get_or chosen (parent t z) 0)) zero_is refl
      ]

      after : take (q + 1) (set chosen q row) ≡ take q chosen ++ row ∷ []
      after = take_more_set chosen q row room

      -- the row at place 0 keeps the least key
      pub walk_goes_on : ((p : ℕ) → p < q → get_or chosen p 0 < rows t p) → row ≡ get_or (group t q (get_or chosen (parent t q) 0)) 0 0 → least_with (take (q + 1) (set chosen q row)) ≡ least_with (take q chosen)
      walk_goes_on reached is =
          let pre = take q chosen in
          let reach : IsReached (length t) (λ v r. r < rows t v) (suc (length t - suc q)) pre = (
            omega (arith, taken),
            (λ p l. let below : p < q = omega (arith, taken, l) in subst (λ x. x < rows t p) (sym (get_or-take q chosen p 0 below)) (reached p below)),
          ) in
          let follows : members_after (key_add d 16) (key_none d 16) (length t) (parent t) (rank t d key) (group t) (best t d key) pre ≡ group t q (get_or chosen (parent t q) 0) =
          ap (λ n. group t n (get_or pre (parent t n) 0)) taken ∙ group_before
          in
          let staged = tree_staged (key_below d 16) (key_add d 16) (key_none d 16) (tuple_keys d 16) (length t) (parent t) (rank t d key) (group t) (best t d key) (λ v r. r < rows t v) (tree_of d key t formed live) in
          ap least_with after ∙ ap (λ x. least_with (pre ++ x ∷ [])) (is ∙ ap (λ xs. get_or xs 0 0) (sym follows)) ∙ staged.first (length t - suc q) pre reach

      pub reached_kept : ((p : ℕ) → p < q → get_or chosen p 0 < rows t p) → row < rows t q → (p : ℕ) → p < q + 1 → get_or (set chosen q row) p 0 < rows t p
      reached_kept so_far here p l = elim (cases_eq p q) [
        | inl e ↦ subst (λ x. get_or (set chosen q row) x 0 < rows t x) (sym e) (subst (λ x. x < rows t q) (sym (get_or-set_same chosen q row 0 room)) here)
        | inr other ↦ subst (λ x. x < rows t p) (sym (get_or-set_other chosen q p row 0 other)) (so_far p (omega arith))
      ]

      slot_row : (i : ℕ) → i < 16 → slot_of d 16 i (key_of_rows (take (q + 1) (set chosen q row))) ≡ slot_of d 16 i (key_of_rows (take q chosen)) + cond (nat_eq i (item t q)) (number t q row) 0
      slot_row i l =
          ap (λ xs. slot_of d 16 i (key_of_rows xs)) after ∙ ap (slot_of d 16 i) (key_push (take q chosen) row) ∙ slot_of_add d 16 i (key_of_rows (take q chosen)) (rank t d key (length (take q chosen)) row)
          ∙ ap (λ n. slot_of d 16 i (key_of_rows (take q chosen)) + slot_of d 16 i (rank t d key n row)) taken
          ∙ ap (λ n. slot_of d 16 i (key_of_rows (take q chosen)) + n) ((ranked_of d key t formed q row inside).slots i l)

      -- the numbers of the chosen rows, by item
      pub slots_go_on : IsTieFreeTree t → (numbers : List ℕ) → length numbers ≡ 16 → ((i : ℕ) → i < 16 → get_or numbers i 0 ≡ slot_of d 16 i (key_of_rows (take q chosen)))
          → (i : ℕ) → i < 16 → get_or (set numbers (item t q) (number t q row)) i 0 ≡ slot_of d 16 i (key_of_rows (take (q + 1) (set chosen q row)))
      slots_go_on apart numbers long so_far i l = elim (cases_eq i (item t q)) [
        | inl e ↦
            let free = tie_free_of d key t formed apart in
            let none : slot_of d 16 (item t q) (key_of_rows (take q chosen)) ≡ 0 =
            slot_zero (key_add d 16) (key_none d 16) (length t) (parent t) (rank t d key) (group t) (item t) (number t) (slot_of d 16) free (item t q) (λ p. rank t d key p (get_or (take q chosen) p 0)) (length (take q chosen)) 0
            (λ p a b. free.slot_other q p (get_or (take q chosen) p 0) inside (omega (arith, taken, b)) (λ same. omega (arith, taken, b, same)))
            in
            let own : cond {A = ℕ} (nat_eq i (item t q)) (number t q row) 0 ≡ number t q row = cond-true (nat_eq i (item t q)) (number t q row) 0 (eq-eqb i (item t q) e) in
            let here : get_or (set numbers (item t q) (number t q row)) (item t q) 0 ≡ number t q row = get_or-set_same numbers (item t q) (number t q row) 0 (omega arith) in
            omega (arith, slot_row i l, own, ap (λ k. get_or (set numbers (item t q) (number t q row)) k 0) e, here, ap (λ k. slot_of d 16 k (key_of_rows (take q chosen))) e, none)
        | inr other ↦
            let own : cond {A = ℕ} (nat_eq i (item t q)) (number t q row) 0 ≡ 0 = cond-false (nat_eq i (item t q)) (number t q row) 0 (ne_eqb i (item t q) other) in
            omega (arith, slot_row i l, own, get_or-set_other numbers (item t q) i (number t q row) 0 other, so_far i l)
      ]

    module _ (live : 0 < group_count t 0) (chosen : List ℕ) (room : length t ≤ length chosen) (k : KeyOf d 16) (least : least_with (take (length t) chosen) ≡ k) where
      -- a whole walk is a solution with that key
      pub walk_ends : (numbers : List ℕ) → length numbers ≡ 16 → ((i : ℕ) → i < 16 → get_or numbers i 0 ≡ slot_of d 16 i (key_of_rows (take (length t) chosen))) → numbers ≡ rows_of_key d 16 k
      walk_ends numbers long slots =
          let whole : key_of_rows (take (length t) chosen) ≡ k =
          sym (bound_whole (key_below d 16) (key_add d 16) (key_none d 16) (tuple_keys d 16) (length t) (parent t) (rank t d key) (group t) (best t d key) (λ v r. r < rows t v) (tree_of d key t formed live) (take (length t) chosen) (length-take-le (length t) chosen room)) ∙ least
          in
          ext_get_or 0 numbers (rows_of_key d 16 k) (long ∙ sym (rows_of_key_length d 16 k))
          (λ i l. slots i (omega arith) ∙ ap (slot_of d 16 i) whole ∙ sym (rows_of_key_at d 16 i k))
