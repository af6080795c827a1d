-- Keys of two numbers are compared as these, the first one first.
use Rattle.std.proofs.Common.{◌≡◌, ℕ, ◌/◌, ◌%◌, ◌^◌, ℤ, pos, ◌-ℤ◌, nat_lt, List, [], ◌∷◌, map, replicate, refl, sym, ap, ◌∙◌, arith}
use Rattle.std.specs.Prelude.{FitsSigned}
use Rattle.std.specs.Int.{w128}
use Rattle.std.specs.Ordering.{int_cmp, nat_cmp, ordering_then, is_lt}
use Rattle.std.specs.Cmp.Lexicographic.{slice_cmp}
use Rattle.std.specs.declared.cmp.Ordering.{Ordering}
use Rattle.std.proofs.lemmas.Bool.Decides.{nat_tests}
use Rattle.std.proofs.lemmas.Int.{ints}
use Rattle.tdp_model.specs.KeyNumbers.{key_less}
use Rattle.rank_key.specs.Packed.{lifted, packed_key}
use Rattle.rank_key.specs.Digits.{lifted_is}
use Rattle.rank_key.specs.WidePacked.{with_rest}
use Rattle.rank_key.proofs.KeyParts.{slice_cmp_append}

-- the slots of a front
abbrev four : ℕ → List ℤ
four n = pos (n / 2 ^ 63) ∷ pos (n / 2 ^ 42 % 2 ^ 21) ∷ pos (n / 2 ^ 21 % 2 ^ 21) ∷ pos (n % 2 ^ 21) ∷ []

-- the numbers of a front
abbrev front : ℤ → List ℤ
front z = (pos (lifted z / 2 ^ 84) -ℤ pos (2 ^ 43)) ∷ four (lifted z % 2 ^ 84)

-- those behind it
abbrev behind : ℕ → List ℤ
behind n = pos (n / 2 ^ 42) ∷ pos (n / 2 ^ 21 % 2 ^ 21) ∷ pos (n % 2 ^ 21) ∷ map pos (replicate 9 0)

-- the sum decides, and then the number of the slots
sum_order : (a b : ℤ) → FitsSigned w128 a → FitsSigned w128 b
    → ordering_then (int_cmp (pos (lifted a / 2 ^ 84) -ℤ pos (2 ^ 43)) (pos (lifted b / 2 ^ 84) -ℤ pos (2 ^ 43))) (nat_cmp (lifted a % 2 ^ 84) (lifted b % 2 ^ 84)) ≡ int_cmp a b
sum_order a b fits-a fits-b =
    let is-a = lifted_is a fits-a in let is-b = lifted_is b fits-b in
    grind (arith, ints, nat_tests, is-a, is-b)

four_order : (n m : ℕ) → slice_cmp int_cmp (four n) (four m) ≡ nat_cmp n m
four_order n m = grind (arith, ints, nat_tests)

front_order : (a b : ℤ) → FitsSigned w128 a → FitsSigned w128 b → slice_cmp int_cmp (front a) (front b) ≡ int_cmp a b
front_order a b fits-a fits-b =
    ap (ordering_then (int_cmp (pos (lifted a / 2 ^ 84) -ℤ pos (2 ^ 43)) (pos (lifted b / 2 ^ 84) -ℤ pos (2 ^ 43)))) (four_order (lifted a % 2 ^ 84) (lifted b % 2 ^ 84))
    ∙ sum_order a b fits-a fits-b

behind_order : (n m : ℕ) → slice_cmp int_cmp (behind n) (behind m) ≡ nat_cmp n m
behind_order n m = grind (arith, ints, nat_tests)

pub wide_less : (a b : ℤ) (n m : ℕ) (o : Ordering) → FitsSigned w128 a → FitsSigned w128 b → o ≡ int_cmp a b
    → is_lt (ordering_then o (nat_cmp n m))
    ≡ key_less 1 16 (with_rest (packed_key a) n) (with_rest (packed_key b) m)
wide_less a b n m o fits-a fits-b is =
    ap is_lt ((λ i. ordering_then ((is ∙ sym (front_order a b fits-a fits-b)) i) (sym (behind_order n m) i))
    ∙ sym (slice_cmp_append (front a) (behind n) (front b) (behind m) refl))

pub is_less : (n m : ℕ) → nat_lt n m ≡ is_lt (nat_cmp n m)
is_less n m = grind (arith, nat_tests)
