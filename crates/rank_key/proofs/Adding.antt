-- Adding the numbers of ranks adds their keys, if some rank has the sum of the keys.
use mir.Val.{of_z, to_z}
use Rattle.std.proofs.Common.{◌≡◌, ℕ, ◌+◌, ◌/◌, ◌%◌, ◌^◌, ℤ, pos, ◌+ℤ◌, ◌-ℤ◌, sym, ap, subst, ◌∙◌, arith, rules}
use Rattle.std.specs.Prelude.{FitsSigned}
use Rattle.std.specs.Int.{w128}
use Rattle.std.proofs.lemmas.Int.{ints, to_z-of_z}
use Rattle.tdp_model.specs.KeyTuple.{KeyOf, key_add, slot_of}
use Rattle.tdp_model.specs.KeyNumbers.{sum_of}
use Rattle.rank_key.specs.Packed.{lifted, packed_key}
use Rattle.rank_key.specs.Digits.{lifted_is}

rests_add : (x y z : ℕ) → z / 2 ^ 63 ≡ x / 2 ^ 63 + y / 2 ^ 63 → z / 2 ^ 42 % 2 ^ 21 ≡ x / 2 ^ 42 % 2 ^ 21 + y / 2 ^ 42 % 2 ^ 21 → z / 2 ^ 21 % 2 ^ 21 ≡ x / 2 ^ 21 % 2 ^ 21 + y / 2 ^ 21 % 2 ^ 21
    → z % 2 ^ 21 ≡ x % 2 ^ 21 + y % 2 ^ 21 → z ≡ x + y
rests_add x y z p q r s = omega (arith, p, q, r, s)

module _ (a b z : ℤ) (fits-a : FitsSigned w128 a) (fits-b : FitsSigned w128 b) (fits-z : FitsSigned w128 z) where
  pub number_sum : packed_key z ≡ key_add 1 16 (packed_key a) (packed_key b) → z ≡ a +ℤ b
  number_sum e =
      let rest : lifted z % 2 ^ 84 ≡ lifted a % 2 ^ 84 + lifted b % 2 ^ 84 =
      rests_add (lifted a % 2 ^ 84) (lifted b % 2 ^ 84) (lifted z % 2 ^ 84) (ap (slot_of 1 16 0) e) (ap (slot_of 1 16 1) e) (ap (slot_of 1 16 2) e) (ap (slot_of 1 16 3) e) in
      let is-a = lifted_is a fits-a in let is-b = lifted_is b fits-b in let is-z = lifted_is z fits-z in
      omega (arith, ints, ap (sum_of 1 16 0) e, rest, is-a, is-b, is-z)

-- what is left of a number without a part of it
pub number_rest : (t o r : ℤ) (rest : KeyOf 1 16) → FitsSigned w128 t → FitsSigned w128 o → FitsSigned w128 r
    → packed_key t ≡ key_add 1 16 rest (packed_key o) → packed_key r ≡ rest → r ≡ t -ℤ o
number_rest t o r rest fits-t fits-o fits-r whole is =
    let sum = number_sum r o t fits-r fits-o fits-t (whole ∙ ap (λ k. key_add 1 16 k (packed_key o)) (sym is)) in
    omega (arith, ints, sum)

-- a number as it is read back from its bits
abbrev pub read : ℤ → ℤ
read z = to_z w128 (of_z w128 z)

-- a number that fits is read as it is
pub number_read : (x a : ℤ) → x ≡ a → FitsSigned w128 a → read x ≡ a
number_read x a is fits = ap read is ∙ to_z-of_z w128 a fits

pub sum_read : (x y a b : ℤ) → x ≡ a → y ≡ b → FitsSigned w128 a → FitsSigned w128 b → read x +ℤ read y ≡ a +ℤ b
sum_read x y a b p q fits-a fits-b = λ i. number_read x a p fits-a i +ℤ number_read y b q fits-b i

pub difference_read : (x y a b : ℤ) → x ≡ a → y ≡ b → FitsSigned w128 a → FitsSigned w128 b → read x -ℤ read y ≡ a -ℤ b
difference_read x y a b p q fits-a fits-b = λ i. number_read x a p fits-a i -ℤ number_read y b q fits-b i

-- what is read fits
pub read_fits : (x z : ℤ) → x ≡ read z → FitsSigned w128 x
read_fits x z is = let fits : FitsSigned w128 (read z) = search rules in subst (FitsSigned w128) (sym is) fits
