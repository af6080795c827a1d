-- The two numbers of a key of seven slots fit, and have its sum and its slots as digits.
-- A proof, and not a definition: ghost fields of types are made with it, so it stands here.
use Rattle.std.proofs.Common.{◌≡◌, ℕ, zero, suc, ◌+◌, ◌*◌, ◌/◌, ◌%◌, ◌^◌, ◌<◌, ◌≤◌, ℤ, [], ◌∷◌, refl, sym, ap, ◌∙◌, inl, inr, arith}
use Rattle.std.specs.Prelude.{unsigned_abs}
use Rattle.std.proofs.lemmas.Bool.{cases_lt}
use Rattle.tdp_model.specs.KeyTuple.{KeyOf, slot_of}
use Rattle.tdp_model.specs.KeyNumbers.{sum_of}
use Rattle.tdp_model.proofs.KeyNumbers.{key_same, slot_of_lists}
use Rattle.rank_key.specs.Keys.{IsInLimits}
use Rattle.rank_key.specs.Packed.{packed_key, number_of}
use Rattle.rank_key.specs.Digits.{key_of_number, packed_slot}
use Rattle.rank_key.specs.WidePacked.{front_of, rest_of, with_rest}

-- the slots of a front
pub front_slot : (k : KeyOf 1 16) (i : ℕ) → i < 4 → slot_of 1 16 i (front_of k) ≡ slot_of 1 16 i k
front_slot k zero l = refl
front_slot k (suc zero) l = refl
front_slot k (suc (suc zero)) l = refl
front_slot k (suc (suc (suc zero))) l = refl
front_slot k (suc (suc (suc (suc i)))) l = absurd (omega arith)

pub front_past : (k : KeyOf 1 16) (i : ℕ) → 4 ≤ i → i < 16 → slot_of 1 16 i (front_of k) ≡ 0
front_past k zero h l = absurd (omega arith)
front_past k (suc zero) h l = absurd (omega arith)
front_past k (suc (suc zero)) h l = absurd (omega arith)
front_past k (suc (suc (suc zero))) h l = absurd (omega arith)
front_past k (suc (suc (suc (suc i)))) h l = slot_of_lists 1 16 (suc (suc (suc (suc i))))
    (sum_of 1 16 0 k ∷ [])
    (slot_of 1 16 0 k ∷ slot_of 1 16 1 k ∷ slot_of 1 16 2 k ∷ slot_of 1 16 3 k ∷ []) l

-- the digits of a number of three
module _ (a b c : ℕ) (p : a < 2 ^ 21) (q : b < 2 ^ 21) (r : c < 2 ^ 21) where
  abbrev made : ℕ
  made = a * 2 ^ 42 + b * 2 ^ 21 + c

  made_below : made < 2 ^ 63
  made_below = omega (arith, p, q, r)

  first_digit : made / 2 ^ 42 ≡ a
  first_digit = omega (arith, p, q, r)

  second_digit : made / 2 ^ 21 % 2 ^ 21 ≡ b
  second_digit = omega (arith, p, q, r)

  last_digit : made % 2 ^ 21 ≡ c
  last_digit = omega (arith, p, q, r)

module _ (k : KeyOf 1 16) (within : IsInLimits 1 7 (2 ^ 43) (2 ^ 21) k) where
  small : (i : ℕ) → i < 7 → slot_of 1 16 i k < 2 ^ 21
  small i l = within.slots i (omega arith)

  pub front_within : IsInLimits 1 4 (2 ^ 43) (2 ^ 21) (front_of k)
  front_within = record {
    sums = sums;
    slots = slots;
    none = λ i h l. front_past k i h l;
  }
    where
      sums : (i : ℕ) → i < 1 → unsigned_abs (sum_of 1 16 i (front_of k)) < 2 ^ 43
      sums zero l = within.sums 0 l
      sums (suc i) l = absurd (omega arith)

      slots : (i : ℕ) → i < 16 → slot_of 1 16 i (front_of k) < 2 ^ 21
      slots i l = elim (cases_lt i 4) [
        | inl here ↦ omega (arith, front_slot k i here, within.slots i l)
        | inr past ↦ omega (arith, front_past k i past l)
      ]

  pub rest_below : rest_of k < 2 ^ 63
  rest_below = made_below (slot_of 1 16 4 k) (slot_of 1 16 5 k) (slot_of 1 16 6 k)
      (small 4 (omega arith)) (small 5 (omega arith)) (small 6 (omega arith))

  -- the digits of the two numbers make the key
  pub key_of_numbers : with_rest (packed_key (number_of k)) (rest_of k) ≡ k
  key_of_numbers =
      ap (λ f. with_rest f (rest_of k)) (key_of_number (front_of k) front_within)
      ∙ key_same 1 16 (with_rest k (rest_of k)) k sums slots
    where
      sums : (i : ℕ) → i < 1 → sum_of 1 16 i (with_rest k (rest_of k)) ≡ sum_of 1 16 i k
      sums zero l = refl
      sums (suc i) l = absurd (omega arith)

      slots : (i : ℕ) → i < 16 → slot_of 1 16 i (with_rest k (rest_of k)) ≡ slot_of 1 16 i k
      slots zero l = refl
      slots (suc zero) l = refl
      slots (suc (suc zero)) l = refl
      slots (suc (suc (suc zero))) l = refl
      slots (suc (suc (suc (suc zero)))) l = first_digit (slot_of 1 16 4 k) (slot_of 1 16 5 k)
          (slot_of 1 16 6 k) (small 4 (omega arith)) (small 5 (omega arith)) (small 6 (omega arith))
      slots (suc (suc (suc (suc (suc zero))))) l = second_digit (slot_of 1 16 4 k)
          (slot_of 1 16 5 k) (slot_of 1 16 6 k) (small 4 (omega arith)) (small 5 (omega arith))
          (small 6 (omega arith))
      slots (suc (suc (suc (suc (suc (suc zero)))))) l = last_digit (slot_of 1 16 4 k)
          (slot_of 1 16 5 k) (slot_of 1 16 6 k) (small 4 (omega arith)) (small 5 (omega arith))
          (small 6 (omega arith))
      slots (suc (suc (suc (suc (suc (suc (suc i))))))) l =
          slot_of_lists 1 16 (suc (suc (suc (suc (suc (suc (suc i)))))))
          (sum_of 1 16 0 k ∷ [])
          (slot_of 1 16 0 k ∷ slot_of 1 16 1 k ∷ slot_of 1 16 2 k ∷ slot_of 1 16 3 k
          ∷ rest_of k / 2 ^ 42 ∷ rest_of k / 2 ^ 21 % 2 ^ 21 ∷ rest_of k % 2 ^ 21 ∷ []) l
          ∙ sym (within.none (suc (suc (suc (suc (suc (suc (suc i))))))) (omega arith) l)

-- a slot of the key of two numbers is a digit
pub wide_slot : (z : ℤ) (n : ℕ) → n < 2 ^ 63 → (i : ℕ) → i < 16
    → slot_of 1 16 i (with_rest (packed_key z) n) < 2 ^ 21
wide_slot z n low zero l = packed_slot z 0 l
wide_slot z n low (suc zero) l = packed_slot z 1 l
wide_slot z n low (suc (suc zero)) l = packed_slot z 2 l
wide_slot z n low (suc (suc (suc zero))) l = packed_slot z 3 l
wide_slot z n low (suc (suc (suc (suc zero)))) l = omega (arith, low)
wide_slot z n low (suc (suc (suc (suc (suc zero))))) l = omega arith
wide_slot z n low (suc (suc (suc (suc (suc (suc zero)))))) l = omega arith
wide_slot z n low (suc (suc (suc (suc (suc (suc (suc i))))))) l = rw
    (slot_of_lists 1 16 (suc (suc (suc (suc (suc (suc (suc i)))))))
    (sum_of 1 16 0 (packed_key z) ∷ [])
    (slot_of 1 16 0 (packed_key z) ∷ slot_of 1 16 1 (packed_key z) ∷ slot_of 1 16 2 (packed_key z)
    ∷ slot_of 1 16 3 (packed_key z) ∷ n / 2 ^ 42 ∷ n / 2 ^ 21 % 2 ^ 21 ∷ n % 2 ^ 21 ∷ []) l)
    (omega arith)
