-- The number of a key's digits is a number of 128 bits with a sign, and has these digits.
-- A proof, and not a definition: ghost fields of types are made with it, so it stands here.
use Rattle.std.proofs.Common.{◌≡◌, ℕ, zero, suc, ◌/◌, ◌%◌, ◌^◌, ◌<◌, ℤ, pos, negsuc, ◌+ℤ◌, ◌-ℤ◌, ◌*ℤ◌, List, [], ◌∷◌, get_or, refl, sym, ap, ◌∙◌, arith}
use Rattle.std.specs.Prelude.{FitsSigned, unsigned_abs}
use Rattle.std.specs.Int.{w128}
use Rattle.std.proofs.lemmas.Int.{ints}
use Rattle.tdp_model.specs.KeyTuple.{KeyOf, slot_of}
use Rattle.tdp_model.specs.KeyNumbers.{key_of_lists, sum_of}
use Rattle.tdp_model.proofs.KeyNumbers.{key_same, slot_of_lists}
use Rattle.rank_key.specs.Keys.{IsInLimits}
use Rattle.rank_key.specs.Packed.{lifted, digits, packed_key, from_digits, number_of}

-- a number of 128 bits with a sign, lifted
pub lifted_is : (z : ℤ) → FitsSigned w128 z → pos (lifted z) ≡ z +ℤ pos (2 ^ 127)
lifted_is (pos n) fits = omega (arith, ints)
lifted_is (negsuc n) fits = omega (arith, ints)

-- the digits of such a number
module _ (a b c d : ℕ)
    (p : a < 2 ^ 21) (q : b < 2 ^ 21) (r : c < 2 ^ 21) (s : d < 2 ^ 21) where
  pub digits_below : from_digits a b c d < 2 ^ 84
  digits_below = omega (arith, p, q, r, s)

  first_digit : from_digits a b c d / 2 ^ 63 ≡ a
  first_digit = omega (arith, p, q, r, s)

  second_digit : from_digits a b c d / 2 ^ 42 % 2 ^ 21 ≡ b
  second_digit = omega (arith, p, q, r, s)

  third_digit : from_digits a b c d / 2 ^ 21 % 2 ^ 21 ≡ c
  third_digit = omega (arith, p, q, r, s)

  last_digit : from_digits a b c d % 2 ^ 21 ≡ d
  last_digit = omega (arith, p, q, r, s)

-- a sum below 2 ^ 43 in absolute value and a number below 2 ^ 84 make a number of 128 bits with a
-- sign, and are had from it
module _ (sum : ℤ) (rest : ℕ) (small : unsigned_abs sum < 2 ^ 43) (low : rest < 2 ^ 84) where
  abbrev made : ℤ
  made = sum *ℤ pos (2 ^ 84) +ℤ pos rest

  pub made_fits : FitsSigned w128 made
  made_fits = omega (arith, ints, small, low)

  pub made_sum : pos (lifted made / 2 ^ 84) -ℤ pos (2 ^ 43) ≡ sum
  made_sum = let is = lifted_is made made_fits in omega (arith, ints, small, low, is)

  pub made_rest : lifted made % 2 ^ 84 ≡ rest
  made_rest = let is = lifted_is made made_fits in omega (arith, ints, small, low, is)

module _ (k : KeyOf 1 16) (within : IsInLimits 1 4 (2 ^ 43) (2 ^ 21) k) where
  abbrev sum : ℤ
  sum = sum_of 1 16 0 k

  abbrev slot : ℕ → ℕ
  slot i = slot_of 1 16 i k

  abbrev four : List ℕ
  four = slot 0 ∷ slot 1 ∷ slot 2 ∷ slot 3 ∷ []

  abbrev rest : ℕ
  rest = from_digits (slot 0) (slot 1) (slot 2) (slot 3)

  small : (i : ℕ) → i < 4 → slot i < 2 ^ 21
  small i l = within.slots i (omega arith)

  sum_small : unsigned_abs sum < 2 ^ 43
  sum_small = within.sums 0 (omega arith)

  rest_below : rest < 2 ^ 84
  rest_below = digits_below (slot 0) (slot 1) (slot 2) (slot 3) (small 0 (omega arith))
      (small 1 (omega arith)) (small 2 (omega arith)) (small 3 (omega arith))

  pub number_fits : FitsSigned w128 (number_of k)
  number_fits = made_fits sum rest sum_small rest_below

  digits_are : digits (lifted (number_of k) % 2 ^ 84) ≡ four
  digits_are =
      let p = small 0 (omega arith) in let q = small 1 (omega arith) in
      let r = small 2 (omega arith) in let s = small 3 (omega arith) in
      ap digits (made_rest sum rest sum_small rest_below)
      ∙ (λ i. first_digit (slot 0) (slot 1) (slot 2) (slot 3) p q r s i
      ∷ second_digit (slot 0) (slot 1) (slot 2) (slot 3) p q r s i
      ∷ third_digit (slot 0) (slot 1) (slot 2) (slot 3) p q r s i
      ∷ last_digit (slot 0) (slot 1) (slot 2) (slot 3) p q r s i ∷ [])

  -- the digits of a key's number make the key
  pub key_of_number : packed_key (number_of k) ≡ k
  key_of_number =
      ap (λ s. key_of_lists 1 16 (s ∷ []) (digits (lifted (number_of k) % 2 ^ 84)))
      (made_sum sum rest sum_small rest_below)
      ∙ ap (key_of_lists 1 16 (sum ∷ [])) digits_are
      ∙ key_same 1 16 (key_of_lists 1 16 (sum ∷ []) four) k sums slots
    where
      sums : (i : ℕ) → i < 1 → sum_of 1 16 i (key_of_lists 1 16 (sum ∷ []) four) ≡ sum_of 1 16 i k
      sums zero l = refl
      sums (suc i) l = absurd (omega arith)

      at : (i : ℕ) → i < 16 → get_or four i 0 ≡ slot i
      at zero l = refl
      at (suc zero) l = refl
      at (suc (suc zero)) l = refl
      at (suc (suc (suc zero))) l = refl
      at (suc (suc (suc (suc i)))) l =
          sym (within.none (suc (suc (suc (suc i)))) (omega arith) l)

      slots : (i : ℕ) → i < 16 → slot_of 1 16 i (key_of_lists 1 16 (sum ∷ []) four) ≡ slot i
      slots i l = slot_of_lists 1 16 i (sum ∷ []) four l ∙ at i l

-- a slot of a number's key is a digit
pub packed_slot : (z : ℤ) (i : ℕ) → i < 16 → slot_of 1 16 i (packed_key z) < 2 ^ 21
packed_slot z i l = rw (slot_of_lists 1 16 i ((pos (lifted z / 2 ^ 84) -ℤ pos (2 ^ 43)) ∷ [])
    (digits (lifted z % 2 ^ 84)) l) (digit_below (lifted z) i)
  where
    digit_below : (n i : ℕ) → get_or (digits (n % 2 ^ 84)) i 0 < 2 ^ 21
    digit_below n zero = omega arith
    digit_below n (suc zero) = omega arith
    digit_below n (suc (suc zero)) = omega arith
    digit_below n (suc (suc (suc zero))) = omega arith
    digit_below n (suc (suc (suc (suc i)))) = omega arith
