-- Pairs in a list, each once.
use Rattle.std.proofs.Common.{◌≡◌, ℕ, zero, suc, Bool, true, false, not, nat_eq, ◌||◌, ◌&&◌}
use Rattle.std.proofs.Common.{if◌then◌else◌, List, [], ◌∷◌, ◌++◌, slice_get, Some, refl, sym, ap, ◌∙◌}
use Rattle.std.proofs.Common.{arith, eqb-true, eq-eqb}
use Rattle.std.specs.List.{list_any}
use Rattle.std.proofs.lemmas.Bool.{false≢true, and_parts, or_right}
use Rattle.std.proofs.lemmas.Option.{get_or_from_slice_get, slice_get_within}
use Rattle.indexmap.specs.IndexSet.{insert_key}
use Rattle.proof_check.specs.Levels.{IsPairAt}

abbrev Pair : Type 0
Pair = ℕ × ℕ

-- the pairs are the same
abbrev pub same : Pair → Pair → Bool
same a b = nat_eq a.0 b.0 && nat_eq a.1 b.1

pub same_is : (a b : Pair) → same a b ≡ true → a ≡ b
same_is a b e =
    let h = and_parts (nat_eq a.0 b.0) (nat_eq a.1 b.1) e in
    λ i. ((eqb-true a.0 b.0 h.0) i, (eqb-true a.1 b.1 h.1) i)

pub is_same : (a b : Pair) → a ≡ b → same a b ≡ true
is_same a b e = (λ i. eq-eqb a.0 b.0 (ap (λ (p : Pair). p.0) e) i && nat_eq a.1 b.1) ∙ eq-eqb a.1 b.1 (ap (λ (p : Pair). p.1) e)

pub found_at : (xs : List Pair) (x : Pair) → list_any (same x) xs ≡ true → (k : ℕ) × IsPairAt xs k x
found_at [] x e = absurd (false≢true e)
found_at (y ∷ ys) x e = by (same x y) refl e (λ h. found_at ys x h)
  where
    by : (b : Bool) → same x y ≡ b → (b || list_any (same x) ys) ≡ true
        → (list_any (same x) ys ≡ true → (k : ℕ) × IsPairAt ys k x) → (k : ℕ) × IsPairAt (y ∷ ys) k x
    by true s _ later = (0, (omega arith, sym (same_is x y s)))
    by false s h later = let r = later h in (suc r.0, (let l = r.1.0 in omega (arith, l), r.1.1))

pub at_found : (xs : List Pair) (x : Pair) (k : ℕ) → IsPairAt xs k x → list_any (same x) xs ≡ true
at_found [] x k h = absurd (let l = h.0 in omega (arith, l))
at_found (y ∷ ys) x zero h = ap (λ b. b || list_any (same x) ys) (is_same x y (sym h.1))
at_found (y ∷ ys) x (suc k) h = or_right (same x y) (list_any (same x) ys) (at_found ys x k (let l = h.0 in omega (arith, l), h.1))

-- what inserting a pair gives
module _ (old : List Pair) (x : Pair) (new : List Pair) (keys : new ≡ insert_key same old x) where
  pub inserted : (added : Bool) → added ≡ not (list_any (same x) old) → new ≡ (if added then old ++ x ∷ [] else old)
  inserted added e = keys ∙ by (list_any (same x) old) added e
    where
      by : (b added : Bool) → added ≡ not b
          → (if b then old else old ++ x ∷ []) ≡ (if added then old ++ x ∷ [] else old)
      by true added e = ap (λ c. if c then old ++ x ∷ [] else old) (sym e)
      by false added e = ap (λ c. if c then old ++ x ∷ [] else old) (sym e)

  pub inserted_at : (n : ℕ) (y : Pair) → slice_get new n ≡ Some y → same x y ≡ true → IsPairAt new n x
  inserted_at n y is alike = (
    slice_get_within new n y is,
    get_or_from_slice_get new n y (0, 0) is ∙ sym (same_is x y alike),
  )

  pub inserted_new : (added : Bool) → added ≡ not (list_any (same x) old) → added ≡ true → (k : ℕ) → IsPairAt old k x → ⊥
  inserted_new added e is k h = false≢true (sym (e ∙ ap not (at_found old x k h)) ∙ is)
