-- Elements of lists.
use Rattle.std.proofs.Common.{◌≡◌, ℕ, zero, suc, ◌<◌, ◌⊎◌, inl, inr, Bool, true, false, nat_eq, List, [], ◌∷◌, ◌++◌, length, get_or, refl, ap, arith, eqb-true}

eqb_by : (a b : ℕ) (t : Bool) → nat_eq a b ≡ t → (a ≡ b → ⊥) → nat_eq a b ≡ false
eqb_by a b true e not = absurd (not (eqb-true a b e))
eqb_by a b false e not = e

pub eqb_false : (a b : ℕ) → (a ≡ b → ⊥) → nat_eq a b ≡ false
eqb_false a b not = eqb_by a b (nat_eq a b) refl not

-- an element of a list with one more at its end
pub get_or_snoc : {X : Type 0} (xs : List X) (x : X) (c : ℕ) (d : X) → c < length (xs ++ (x ∷ []))
    → ((c < length xs) × (get_or (xs ++ (x ∷ [])) c d ≡ get_or xs c d)) ⊎ ((c ≡ length xs) × (get_or (xs ++ (x ∷ [])) c d ≡ x))
get_or_snoc [] x zero d h = inr (refl, refl)
get_or_snoc [] x (suc c) d h = absurd (omega arith)
get_or_snoc (y ∷ xs) x zero d h = inl (omega arith, refl)
get_or_snoc (y ∷ xs) x (suc c) d h =
    let less : c < length (xs ++ (x ∷ [])) = omega arith in
    elim (get_or_snoc xs x c d less) [ inl p ↦ inl (omega (arith, p.0), p.1) | inr p ↦ inr (ap suc p.0, p.1) ]
