-- Sums of numbers in a list.
use Rattle.std.proofs.Common.{◌≡◌, ◌+◌, ℕ, List, [], ◌∷◌, map, refl, arith}
use Rattle.bound_query.specs.KeyParts.{sum_of_all}

pub sum_zero : (ns : List ℕ) → sum_of_all (map (λ (i : ℕ). 0) ns) ≡ 0
sum_zero [] = refl
sum_zero (n ∷ ns) = let h = sum_zero ns in omega (arith, h)

pub sum_ap : (f g : ℕ → ℕ) (ns : List ℕ) → ((i : ℕ) → f i ≡ g i) → sum_of_all (map f ns) ≡ sum_of_all (map g ns)
sum_ap f g [] e = refl
sum_ap f g (n ∷ ns) e = (λ j. e n j + sum_ap f g ns e j)
