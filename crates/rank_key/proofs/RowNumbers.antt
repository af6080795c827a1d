-- The number of the key of one row.
use Rattle.std.proofs.Common.{◌≡◌, ℕ, zero, suc, ◌^◌, ◌<◌, ◌/◌, ◌%◌, ℤ, pos, ◌+ℤ◌, ◌-ℤ◌, ◌*ℤ◌, List, [], ◌∷◌, replicate, get_or, refl, sym, ap, subst, ◌∙◌, arith}
use Rattle.std.specs.Prelude.{FitsSigned}
use Rattle.std.specs.Int.{w128}
use Rattle.std.proofs.Math.ListN.{set}
use Rattle.std.proofs.lemmas.Grind.{get_or-set_at}
use Rattle.std.proofs.lemmas.Int.{ints, to_z-of_z}
use Rattle.std.proofs.lemmas.List.{get_or-set_other, get_or-replicate}
use Rattle.tdp_model.specs.KeyTuple.{slot_of}
use Rattle.tdp_model.specs.KeyNumbers.{sum_of}
use Rattle.tdp_model.proofs.KeyNumbers.{sum_of_lists, slot_of_lists}
use Rattle.rank_key.specs.Keys.{row_key}
use Rattle.rank_key.specs.Packed.{lifted, digits, packed_key, from_digits, unit_of}
use Rattle.rank_key.specs.Digits.{lifted_is}
use Rattle.rank_key.proofs.Adding.{read, number_read}

-- a number below 2 ^ 84 is that of its digits
digits_make : (n : ℕ) → n < 2 ^ 84 → from_digits (n / 2 ^ 63) (n / 2 ^ 42 % 2 ^ 21) (n / 2 ^ 21 % 2 ^ 21) (n % 2 ^ 21) ≡ n
digits_make n low = omega (arith, low)

-- the digits are those of one row in a slot
module _ (n slot row : ℕ) (low : n < 2 ^ 84) (few : slot < 16)
    (own : get_or (digits n) slot 0 ≡ row) (other : (i : ℕ) → i < 16 → (i ≡ slot → ⊥) → get_or (digits n) i 0 ≡ 0) where
  row_digits : pos n ≡ pos row *ℤ unit_of slot
  row_digits = by slot few own other
    where
      by : (s : ℕ) → s < 16 → get_or (digits n) s 0 ≡ row → ((i : ℕ) → i < 16 → (i ≡ s → ⊥) → get_or (digits n) i 0 ≡ 0) → pos n ≡ pos row *ℤ unit_of s
      by zero few own other = omega (arith, ints, low, digits_make n low, own, other 1 (omega arith) (λ e. omega arith), other 2 (omega arith) (λ e. omega arith), other 3 (omega arith) (λ e. omega arith))
      by (suc zero) few own other = omega (arith, ints, low, digits_make n low, own, other 0 (omega arith) (λ e. omega arith), other 2 (omega arith) (λ e. omega arith), other 3 (omega arith) (λ e. omega arith))
      by (suc (suc zero)) few own other = omega (arith, ints, low, digits_make n low, own, other 0 (omega arith) (λ e. omega arith), other 1 (omega arith) (λ e. omega arith), other 3 (omega arith) (λ e. omega arith))
      by (suc (suc (suc zero))) few own other = omega (arith, ints, low, digits_make n low, own, other 0 (omega arith) (λ e. omega arith), other 1 (omega arith) (λ e. omega arith), other 2 (omega arith) (λ e. omega arith))
      by (suc (suc (suc (suc s)))) few own other =
          omega (arith, ints, low, digits_make n low, own, other 0 (omega arith) (λ e. omega arith), other 1 (omega arith) (λ e. omega arith), other 2 (omega arith) (λ e. omega arith), other 3 (omega arith) (λ e. omega arith))

module _ (row : ℕ) (sums : List ℤ) (slot : ℕ) (few : slot < 16) where
  pub slot_own : slot_of 1 16 slot (row_key 1 sums slot row) ≡ row
  slot_own = slot_of_lists 1 16 slot sums (set (replicate 16 0) slot row) few ∙ get_or-set_at (replicate 16 0) slot slot row 0 refl (omega arith)

  pub slot_other : (i : ℕ) → i < 16 → (i ≡ slot → ⊥) → slot_of 1 16 i (row_key 1 sums slot row) ≡ 0
  slot_other i l n =
      slot_of_lists 1 16 i sums (set (replicate 16 0) slot row) l
      ∙ get_or-set_other {A = ℕ} (replicate 16 0) slot i row 0 n ∙ get_or-replicate {A = ℕ} 16 i 0 0 l

  -- z is the number of a rank that has the row's key
  module _ (z : ℤ) (fits : FitsSigned w128 z) (is : packed_key z ≡ row_key 1 sums slot row) where
    abbrev sum : ℤ
    sum = get_or sums 0 (pos 0)

    abbrev rest : ℕ
    rest = lifted z % 2 ^ 84

    sum_digit : pos (lifted z / 2 ^ 84) -ℤ pos (2 ^ 43) ≡ sum
    sum_digit = ap (sum_of 1 16 0) is ∙ sum_of_lists 1 16 0 sums (set (replicate 16 0) slot row) (omega arith)

    slot_digit : (i : ℕ) → i < 16 → get_or (digits rest) i 0 ≡ slot_of 1 16 i (row_key 1 sums slot row)
    slot_digit i l = sym (slot_of_lists 1 16 i ((pos (lifted z / 2 ^ 84) -ℤ pos (2 ^ 43)) ∷ []) (digits rest) l) ∙ ap (slot_of 1 16 i) is

    rest_is : pos rest ≡ pos row *ℤ unit_of slot
    rest_is = row_digits rest slot row (omega arith) few (slot_digit slot few ∙ slot_own) (λ i l n. slot_digit i l ∙ slot_other i l n)

    -- it is made of the sum and the row number
    pub number_made : z ≡ sum *ℤ pos (2 ^ 84) +ℤ pos row *ℤ unit_of slot
    number_made = let lift = lifted_is z fits in omega (arith, ints, lift, sum_digit, rest_is)

    -- what is computed on the way fits
    pub sum_fits : FitsSigned w128 (sum *ℤ pos (2 ^ 84))
    sum_fits = let lift = lifted_is z fits in omega (arith, ints, fits, lift, sum_digit)

    pub unit_fits : FitsSigned w128 (pos row *ℤ unit_of slot)
    unit_fits = subst (FitsSigned w128) rest_is (low_fits rest (omega arith))
      where
        low_fits : (n : ℕ) → n < 2 ^ 84 → FitsSigned w128 (pos n)
        low_fits n low = omega (arith, ints)

unit_held : (slot : ℕ) → FitsSigned w128 (unit_of slot)
unit_held zero = omega (arith, ints)
unit_held (suc zero) = omega (arith, ints)
unit_held (suc (suc zero)) = omega (arith, ints)
unit_held (suc (suc (suc slot))) = omega (arith, ints)

-- the sum x, the row number f and the unit u as they are computed, for a rank with the row's key
module _ (row : ℕ) (sums : List ℤ) (slot : ℕ) (few : slot < 16) (z : ℤ) (fits : FitsSigned w128 z) (is : packed_key z ≡ row_key 1 sums slot row)
    (x f u : ℤ) (is-x : x ≡ get_or sums 0 (pos 0)) (is-f : f ≡ pos row) (is-u : u ≡ unit_of slot) (low : row < 2 ^ 32) where
  small : (y : ℤ) → FitsSigned w128 (y *ℤ pos (2 ^ 84)) → FitsSigned w128 y
  small y h = omega (arith, ints, h)

  sum_is : read x *ℤ pos (2 ^ 84) ≡ get_or sums 0 (pos 0) *ℤ pos (2 ^ 84)
  sum_is = ap (λ y. y *ℤ pos (2 ^ 84)) (number_read x (get_or sums 0 (pos 0)) is-x (small (get_or sums 0 (pos 0)) (sum_fits row sums slot few z fits is)))

  pub sum_in_place_fits : FitsSigned w128 (read x *ℤ pos (2 ^ 84))
  sum_in_place_fits = subst (FitsSigned w128) (sym sum_is) (sum_fits row sums slot few z fits is)

  row_is : read f *ℤ read u ≡ pos row *ℤ unit_of slot
  row_is =
      let held : FitsSigned w128 (pos row) = omega (arith, ints, low) in
      λ i. number_read f (pos row) is-f held i *ℤ number_read u (unit_of slot) is-u (unit_held slot) i

  pub row_in_place_fits : FitsSigned w128 (read f *ℤ read u)
  row_in_place_fits = subst (FitsSigned w128) (sym row_is) (unit_fits row sums slot few z fits is)

  both_are : read (read x *ℤ pos (2 ^ 84)) +ℤ read (read f *ℤ read u) ≡ z
  both_are =
      (λ i. (to_z-of_z w128 _ sum_in_place_fits ∙ sum_is) i +ℤ (to_z-of_z w128 _ row_in_place_fits ∙ row_is) i)
      ∙ sym (number_made row sums slot few z fits is)

  pub both_in_place_fit : FitsSigned w128 (read (read x *ℤ pos (2 ^ 84)) +ℤ read (read f *ℤ read u))
  both_in_place_fit = subst (FitsSigned w128) (sym both_are) fits

  -- what is read of both has the row's key
  pub key_of_both : (y : ℤ) → y ≡ read (read (read x *ℤ pos (2 ^ 84)) +ℤ read (read f *ℤ read u)) → packed_key y ≡ row_key 1 sums slot row
  key_of_both y made = ap packed_key (made ∙ number_read _ z both_are fits) ∙ is
