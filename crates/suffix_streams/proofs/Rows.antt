-- The row numbers of answers as the slots of their keys.
use Rattle.std.proofs.Common.{◌≡◌, ℕ, zero, suc, ◌+◌, ◌^◌, ◌<◌, nat_eq, List, [], ◌∷◌, length, get_or, slice_set, refl, sym, ap, ◌∙◌, subst, inl, inr, arith}
use Rattle.std.proofs.lemmas.Bool.{cases_eq, eq-eqb, ne_eqb, cond-true, cond-false}
use Rattle.std.proofs.lemmas.List.{get_or-set_same, get_or-set_other}
use Rattle.tdp_core.specs.AnswerView.{rows_of_key}
use Rattle.tdp_core.specs.TreeView.{NodeView, item, number, rank, rows}
use Rattle.tdp_core.specs.WellFormed.{IsFormed}
use Rattle.tdp_core.proofs.AnswerFacts.{rows_of_key_length, rows_of_key_at}
use Rattle.tdp_model.specs.KeyTuple.{KeyOf, key_add, slot_of}
use Rattle.tdp_model.proofs.KeyTuples.{slot_of_add}
use Rattle.suffix_streams.specs.RowNumbers.{AreAddable, AreAdded}

same_list : (xs ys : List ℕ) → length xs ≡ length ys → ((i : ℕ) → i < length xs → get_or xs i 0 ≡ get_or ys i 0) → xs ≡ ys
same_list [] [] l e = refl
same_list [] (y ∷ ys) l e = absurd (omega arith)
same_list (x ∷ xs) [] l e = absurd (omega arith)
same_list (x ∷ xs) (y ∷ ys) l e = ap (λ z. z ∷ xs) (e 0 (omega arith)) ∙ ap (λ z. y ∷ z) (same_list xs ys (omega arith) (λ i h. e (suc i) (omega arith)))

abbrev pub no_rows : List ℕ
no_rows = 0 ∷ (0 ∷ (0 ∷ (0 ∷ (0 ∷ (0 ∷ (0 ∷ (0 ∷ (0 ∷ (0 ∷ (0 ∷ (0 ∷ (0 ∷ (0 ∷ (0 ∷ (0 ∷ [])))))))))))))))

no_row : (i : ℕ) → get_or no_rows i 0 ≡ 0
no_row zero = refl
no_row (suc zero) = refl
no_row (suc (suc zero)) = refl
no_row (suc (suc (suc zero))) = refl
no_row (suc (suc (suc (suc zero)))) = refl
no_row (suc (suc (suc (suc (suc zero))))) = refl
no_row (suc (suc (suc (suc (suc (suc zero)))))) = refl
no_row (suc (suc (suc (suc (suc (suc (suc zero))))))) = refl
no_row (suc (suc (suc (suc (suc (suc (suc (suc zero)))))))) = refl
no_row (suc (suc (suc (suc (suc (suc (suc (suc (suc zero))))))))) = refl
no_row (suc (suc (suc (suc (suc (suc (suc (suc (suc (suc zero)))))))))) = refl
no_row (suc (suc (suc (suc (suc (suc (suc (suc (suc (suc (suc zero))))))))))) = refl
no_row (suc (suc (suc (suc (suc (suc (suc (suc (suc (suc (suc (suc zero)))))))))))) = refl
no_row (suc (suc (suc (suc (suc (suc (suc (suc (suc (suc (suc (suc (suc zero))))))))))))) = refl
no_row (suc (suc (suc (suc (suc (suc (suc (suc (suc (suc (suc (suc (suc (suc zero)))))))))))))) = refl
no_row (suc (suc (suc (suc (suc (suc (suc (suc (suc (suc (suc (suc (suc (suc (suc zero))))))))))))))) = refl
no_row (suc (suc (suc (suc (suc (suc (suc (suc (suc (suc (suc (suc (suc (suc (suc (suc j)))))))))))))))) = refl

module _ (d : ℕ) (k : KeyOf d 16) where
  -- with nothing before them the numbers are the slots
  pub none_addable : ((i : ℕ) → i < 16 → slot_of d 16 i k < 2 ^ 32) → AreAddable d no_rows k
  none_addable f i l = omega (arith, f i l, no_row i)

  pub none_added : (sums : List ℕ) → length sums ≡ 16 → AreAdded d no_rows k sums → sums ≡ rows_of_key d 16 k
  none_added sums long added = same_list sums (rows_of_key d 16 k) (long ∙ sym (rows_of_key_length d 16 k)) (λ i l. omega (arith, added i (omega (arith, l, long)), no_row i, rows_of_key_at d 16 i k))

-- a row's own number
module _ {R : Type 0} (d : ℕ) (key : R → KeyOf d 16) (t : List (NodeView R)) (formed : IsFormed d key t) (v r : ℕ) (l : v < length t) (row : r < rows t v) (numbers : List ℕ) where
  own_slot : slot_of d 16 (item t v) (rank t d key v r) ≡ number t v r
  own_slot = (formed.rows_fit v r l row).slots (item t v) (formed.shaped.items v l) ∙ cond-true (nat_eq (item t v) (item t v)) (number t v r) 0 (eq-eqb (item t v) (item t v) refl)

  pub own_added : length numbers ≡ 16 → AreAdded d numbers (rank t d key v r) (slice_set numbers (item t v) (get_or numbers (item t v) 0 + number t v r))
  own_added long i b = elim (cases_eq i (item t v)) [
    | inl s ↦
        let here : get_or (slice_set numbers (item t v) (get_or numbers (item t v) 0 + number t v r)) (item t v) 0 ≡ get_or numbers (item t v) 0 + number t v r =
        get_or-set_same numbers (item t v) (get_or numbers (item t v) 0 + number t v r) 0 (omega (arith, long, formed.shaped.items v l)) in
        subst (λ j. get_or (slice_set numbers (item t v) (get_or numbers (item t v) 0 + number t v r)) j 0 ≡ get_or numbers j 0 + slot_of d 16 j (rank t d key v r)) (sym s) (omega (arith, here, own_slot))
    | inr n ↦
        omega (
          arith,
          get_or-set_other numbers (item t v) i (get_or numbers (item t v) 0 + number t v r) 0 n,
          (formed.rows_fit v r l row).slots i b,
          cond-false (nat_eq i (item t v)) (number t v r) 0 (ne_eqb i (item t v) n),
        )
  ]

-- the row numbers of a sum: those of its left part, and then those of its right part
module _ (d : ℕ) (numbers : List ℕ) (a b : KeyOf d 16) where
  pub left_addable : AreAddable d numbers (key_add d 16 a b) → AreAddable d numbers a
  left_addable f i l = omega (arith, f i l, slot_of_add d 16 i a b)

  pub right_addable : (lefts : List ℕ) → AreAddable d numbers (key_add d 16 a b) → AreAdded d numbers a lefts → AreAddable d lefts b
  right_addable lefts f added i l = omega (arith, f i l, added i l, slot_of_add d 16 i a b)

  pub both_added : (lefts sums : List ℕ) → AreAdded d numbers a lefts → AreAdded d lefts b sums → AreAdded d numbers (key_add d 16 a b) sums
  both_added lefts sums first then i l = omega (arith, first i l, then i l, slot_of_add d 16 i a b)
