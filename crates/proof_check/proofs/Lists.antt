-- Ascending lists, place by place, and the members that a limit leaves of a list.
use Rattle.std.proofs.Common.{◌≡◌, ◌⊎◌, ℕ, suc, ◌<◌, ◌≤◌, true, false, List, [], ◌∷◌, length, get_or, take}
use Rattle.std.proofs.Common.{refl, sym, ap, inl, inr, arith}
use Rattle.std.specs.List.{AllByRecursion}
use Rattle.std.specs.Prelude.{Option, None, Some, nat_le}
use Rattle.std.proofs.lemmas.Bool.{cases_lt}
use Rattle.std.proofs.lemmas.Bool.Decides.{nat_tests}
use Rattle.std.proofs.lemmas.List.{get_or-take, length-take-le, take_all}
use Rattle.rankings.specs.Order.{IsMember}
use Rattle.anyk_model.specs.Output.{cut}
use Rattle.bound_query.specs.Steps.{reaches}

pub place_at : {A : Type 0} (x : A) (xs : List A) (d : A) → IsMember x xs
    → (i : ℕ) × (i < length xs) × (get_or xs i d ≡ x)
place_at x [] d m = absurd m
place_at x (y ∷ xs) d (inl e) = (0, omega arith, sym e)
place_at x (y ∷ xs) d (inr m) = let r = place_at x xs d m in (suc r.0, omega (arith, r.1), r.2)

-- what holds at each place holds of all
pub all_from : {A : Type 0} (P : A → Type 0) (xs : List A) (d : A) → ((i : ℕ) → i < length xs → P (get_or xs i d))
    → AllByRecursion P xs
all_from P [] d h = tt
all_from P (x ∷ xs) d h = (h 0 (omega arith), all_from P xs d (λ i l. h (suc i) (omega (arith, l))))

-- ---- limits

le_yes : (a b : ℕ) → a ≤ b → nat_le a b ≡ true
le_yes a b h = grind (arith, nat_tests)

le_no : (a b : ℕ) → b < a → nat_le a b ≡ false
le_no a b h = grind (arith, nat_tests)

module _ {A : Type 0} (xs : List A) (d : A) where
  -- the members that a limit leaves are the first ones
  pub record AreFirst (limit : Option ℕ) : Type 0 where
    pub fewer : length (cut limit xs) ≤ length xs
    pub at : (i : ℕ) → i < length (cut limit xs) → get_or (cut limit xs) i d ≡ get_or xs i d
    -- the limit is within the list, and so many are left, or all are
    pub counted : (limit ≡ Some (length (cut limit xs))) × (reaches limit xs ≡ true)
        ⊎ (cut limit xs ≡ xs) × (reaches limit xs ≡ false)
    pub within : (n : ℕ) → limit ≡ Some n → length (cut limit xs) ≤ n

  pub are_first : (limit : Option ℕ) → AreFirst limit
  are_first None = record {
    fewer = omega arith;
    at = λ i l. refl;
    counted = inr (refl, refl);
    within = λ n e. cc;
  }
  are_first (Some n) = elim (cases_lt (length xs) n) [
    | inl less ↦
        let all : take n xs ≡ xs = take_all n xs (omega (arith, less)) in
        let size = ap length all in
        record {
          fewer = omega (arith, size);
          at = λ i l. ap (λ ys. get_or ys i d) all;
          counted = inr (all, le_no n (length xs) less);
          within = λ m e. let same : n ≡ m = cc in omega (arith, size, less, same);
        }
    | inr more ↦
        let size = length-take-le n xs more in
        record {
          fewer = omega (arith, size, more);
          at = λ i l. get_or-take n xs i d (omega (arith, size, l));
          counted = inl (ap (λ (m : ℕ). Some m) (sym size), le_yes n (length xs) more);
          within = λ m e. let same : n ≡ m = cc in omega (arith, size, same);
        }
  ]
