-- The two numbers of the key of one row.
use Rattle.std.proofs.Common.{◌≡◌, ℕ, zero, suc, ◌*◌, ◌/◌, ◌%◌, ◌^◌, ◌<◌, ◌≤◌, ℤ, List, refl, sym, ap, ◌∙◌, inl, inr, arith, replicate}
use Rattle.std.proofs.Math.ListN.{set}
use Rattle.std.proofs.lemmas.Bool.{cases_lt}
use Rattle.tdp_model.specs.KeyTuple.{KeyOf, slot_of}
use Rattle.tdp_model.specs.KeyNumbers.{sum_of}
use Rattle.tdp_model.proofs.KeyNumbers.{key_same, sum_of_lists}
use Rattle.tdp_model.proofs.Subtrees.{cases_eq}
use Rattle.rank_key.specs.Keys.{row_key}
use Rattle.rank_key.specs.WidePacked.{front_of, rest_unit_of, with_rest}
use Rattle.rank_key.specs.WideDigits.{front_slot, front_past}
use Rattle.rank_key.proofs.RowNumbers.{slot_other, slot_own}

-- The front of a row's key is the key of a row that has its number if its slot is one of the first
-- four, and 0 else.
module _ (row own : ℕ) (sums : List ℤ) (slot : ℕ) (few : slot < 16)
    (here : slot < 4 → own ≡ row) (past : 4 ≤ slot → own ≡ 0) where
  pub front_of_row : row_key 1 sums slot own ≡ front_of (row_key 1 sums slot row)
  front_of_row = key_same 1 16 (row_key 1 sums slot own) (front_of (row_key 1 sums slot row)) same_sum same_slot
    where
      same_sum : (i : ℕ) → i < 1 → sum_of 1 16 i (row_key 1 sums slot own) ≡ sum_of 1 16 i (front_of (row_key 1 sums slot row))
      same_sum zero l =
          sum_of_lists 1 16 0 sums (set (replicate 16 0) slot own) (omega arith)
          ∙ sym (sum_of_lists 1 16 0 sums (set (replicate 16 0) slot row) (omega arith))
      same_sum (suc i) l = absurd (omega arith)

      same_slot : (i : ℕ) → i < 16 → slot_of 1 16 i (row_key 1 sums slot own) ≡ slot_of 1 16 i (front_of (row_key 1 sums slot row))
      same_slot i l = elim (cases_lt i 4) [
        | inl low ↦ front_here i l low ∙ sym (front_slot (row_key 1 sums slot row) i low)
        | inr high ↦ behind i l high ∙ sym (front_past (row_key 1 sums slot row) i high l)
      ]
        where
          front_here : (i : ℕ) → i < 16 → i < 4 → slot_of 1 16 i (row_key 1 sums slot own) ≡ slot_of 1 16 i (row_key 1 sums slot row)
          front_here i l low = elim (cases_eq i slot) [
            | inl same ↦
                ap (λ j. slot_of 1 16 j (row_key 1 sums slot own)) same ∙ slot_own own sums slot few ∙ here (omega (arith, same))
                ∙ sym (ap (λ j. slot_of 1 16 j (row_key 1 sums slot row)) same ∙ slot_own row sums slot few)
            | inr other ↦ slot_other own sums slot few i l other ∙ sym (slot_other row sums slot few i l other)
          ]

          behind : (i : ℕ) → i < 16 → 4 ≤ i → slot_of 1 16 i (row_key 1 sums slot own) ≡ 0
          behind i l high = elim (cases_eq i slot) [
            | inl same ↦ ap (λ j. slot_of 1 16 j (row_key 1 sums slot own)) same ∙ slot_own own sums slot few ∙ past (omega (arith, same))
            | inr other ↦ slot_other own sums slot few i l other
          ]

-- the second number of a rank that has the row's key
module _ (k : KeyOf 1 16) (n row : ℕ) (sums : List ℤ) (low : n < 2 ^ 63) where
  pub rest_of_row : (slot : ℕ) → slot < 16 → with_rest k n ≡ row_key 1 sums slot row → n ≡ row * rest_unit_of slot
  rest_of_row slot few is = by slot (own 4 (omega arith)) (other 4 (omega arith)) (own 5 (omega arith)) (other 5 (omega arith)) (own 6 (omega arith)) (other 6 (omega arith))
    where
      own : (i : ℕ) → i < 16 → i ≡ slot → slot_of 1 16 i (with_rest k n) ≡ row
      own i l same = ap (slot_of 1 16 i) is ∙ ap (λ j. slot_of 1 16 j (row_key 1 sums slot row)) same ∙ slot_own row sums slot few

      other : (i : ℕ) → i < 16 → (i ≡ slot → ⊥) → slot_of 1 16 i (with_rest k n) ≡ 0
      other i l n = ap (slot_of 1 16 i) is ∙ slot_other row sums slot few i l n

      by : (s : ℕ) → (4 ≡ s → n / 2 ^ 42 ≡ row) → ((4 ≡ s → ⊥) → n / 2 ^ 42 ≡ 0) → (5 ≡ s → n / 2 ^ 21 % 2 ^ 21 ≡ row) → ((5 ≡ s → ⊥) → n / 2 ^ 21 % 2 ^ 21 ≡ 0)
          → (6 ≡ s → n % 2 ^ 21 ≡ row) → ((6 ≡ s → ⊥) → n % 2 ^ 21 ≡ 0) → n ≡ row * rest_unit_of s
      by zero a b c d e f = omega (arith, b (λ h. omega arith), d (λ h. omega arith), f (λ h. omega arith))
      by (suc zero) a b c d e f = omega (arith, b (λ h. omega arith), d (λ h. omega arith), f (λ h. omega arith))
      by (suc (suc zero)) a b c d e f = omega (arith, b (λ h. omega arith), d (λ h. omega arith), f (λ h. omega arith))
      by (suc (suc (suc zero))) a b c d e f = omega (arith, b (λ h. omega arith), d (λ h. omega arith), f (λ h. omega arith))
      by (suc (suc (suc (suc zero)))) a b c d e f = omega (arith, a refl, d (λ h. omega arith), f (λ h. omega arith))
      by (suc (suc (suc (suc (suc zero))))) a b c d e f = omega (arith, b (λ h. omega arith), c refl, f (λ h. omega arith))
      by (suc (suc (suc (suc (suc (suc zero)))))) a b c d e f = omega (arith, b (λ h. omega arith), d (λ h. omega arith), e refl)
      by (suc (suc (suc (suc (suc (suc (suc s))))))) a b c d e f = omega (arith, b (λ h. omega arith), d (λ h. omega arith), f (λ h. omega arith))
