-- The parts of a row, written one after another.
use Rattle.std.proofs.Common.{◌≡◌, ◌<◌, ◌+◌, ℕ, ℤ, FitsSigned, length, List, [], ◌∷◌, ◌++◌, map, get_or, take, refl, sym, ap, ◌∙◌, arith}
use mir.Syntax.{w128}
use mir.Val.{of_z, to_z}
use Rattle.std.proofs.Math.ListN.{set}
use Rattle.std.proofs.lemmas.Int.{to_z-of_z}
use Rattle.std.proofs.lemmas.List.{map-append, take_more, take_more_set}

-- a number that fits is kept as it is
pub kept : (z : ℤ) → FitsSigned w128 z → to_z w128 (of_z w128 z) ≡ z
kept z f = simp to_z-of_z

-- the part of the only key
pub one_part : {A : Type 0} (f : A → ℤ) (xs : List A) (d : A) → 1 ≡ length xs → f (get_or xs 0 d) ∷ [] ≡ map f xs
one_part f [] d one = absurd (omega arith)
one_part f (x ∷ []) d one = refl
one_part f (x ∷ y ∷ xs) d one = absurd (omega arith)

-- one more place of an array is written
pub places_more : {A : Type 0} (f : A → ℤ) (to : List ℤ) (from : List A) (i : ℕ) (d : A) (v : ℤ) → i < length to → i < length from → v ≡ f (get_or from i d)
    → take i to ≡ map f (take i from) → take (i + 1) (set to i v) ≡ map f (take (i + 1) from)
places_more f to from i d v room inside is done =
    take_more_set to i v room ∙ (λ j. done j ++ is j ∷ []) ∙ sym (ap (map f) (take_more from i d inside) ∙ map-append f (take i from) (get_or from i d ∷ []))
