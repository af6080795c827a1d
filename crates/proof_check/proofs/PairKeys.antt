-- What a set of numbers says of the pairs that they stand for.
use Rattle.std.proofs.Common.{◌≡◌, ◌+◌, ◌*◌, ◌/◌, ◌%◌, ◌^◌, ◌<◌, ◌↔◌, ℕ, zero, suc, Bool, true, false, not, nat_eq, ◌||◌}
use Rattle.std.proofs.Common.{if◌then◌else◌, List, [], ◌∷◌, ◌++◌, map, slice_get, Some, refl, sym, ap, subst, ◌∙◌, arith, eqb-true, eq-eqb}
use Rattle.std.specs.List.{list_any}
use Rattle.std.proofs.lemmas.Bool.{false≢true}
use Rattle.std.proofs.lemmas.List.{map-append}
use Rattle.std.proofs.lemmas.Option.{same_Some}
use Rattle.indexmap.specs.IndexSet.{insert_key}
use Rattle.proof_check.specs.Levels.{IsPairAt}
use Rattle.proof_check.specs.PairKeys.{pair_of}
use Rattle.proof_check.proofs.Pairs.{at_found, found_at, inserted, inserted_at, inserted_new, is_same, same, same_is}

same_key : (x y : ℕ) → pair_of x ≡ pair_of y → x ≡ y
same_key x y e =
    let low = ap (λ (p : ℕ × ℕ). p.0) e in
    let high = ap (λ (p : ℕ × ℕ). p.1) e in
    omega (arith, low, high)

-- numbers are the same exactly if their pairs are
same_pairs : (x y : ℕ) → same (pair_of x) (pair_of y) ≡ nat_eq x y
same_pairs x y = by (nat_eq x y) (same (pair_of x) (pair_of y)) refl refl
  where
    by : (b c : Bool) → nat_eq x y ≡ b → same (pair_of x) (pair_of y) ≡ c → c ≡ b
    by true true _ _ = refl
    by false false _ _ = refl
    by true false e f = absurd (false≢true (sym f ∙ is_same (pair_of x) (pair_of y) (ap pair_of (eqb-true x y e))))
    by false true e f = absurd (false≢true (sym e ∙ eq-eqb x y (same_key x y (same_is (pair_of x) (pair_of y) f))))

any_pair : (x : ℕ) (ys : List ℕ) → list_any (same (pair_of x)) (map pair_of ys) ≡ list_any (nat_eq x) ys
any_pair x [] = refl
any_pair x (y ∷ ys) = ap (λ b. b || list_any (same (pair_of x)) (map pair_of ys)) (same_pairs x y) ∙ ap (λ b. nat_eq x y || b) (any_pair x ys)

-- what is inserted
pair_inserted : (ys : List ℕ) (x : ℕ) → map pair_of (insert_key nat_eq ys x) ≡ insert_key same (map pair_of ys) (pair_of x)
pair_inserted ys x =
    by (list_any (nat_eq x) ys)
    ∙ ap (λ b. if b then map pair_of ys else map pair_of ys ++ pair_of x ∷ []) (sym (any_pair x ys))
  where
    by : (b : Bool) → map pair_of (if b then ys else ys ++ x ∷ []) ≡ (if b then map pair_of ys else map pair_of ys ++ pair_of x ∷ [])
    by true = refl
    by false = map-append pair_of ys (x ∷ [])

pair_at : (ys : List ℕ) (n y : ℕ) → slice_get ys n ≡ Some y → slice_get (map pair_of ys) n ≡ Some (pair_of y)
pair_at [] n y e = cc
pair_at (x ∷ xs) zero y e = ap (λ a. Some (pair_of a)) (same_Some x y e)
pair_at (x ∷ xs) (suc n) y e = pair_at xs n y e

-- the pair of a number made of two parts
pub pair_made : (number row : ℕ) → number < 2 ^ 32 → pair_of (row * 4294967296 + number) ≡ (number, row)
pair_made number row small =
    λ i. (low i, high i)
  where
    low : (row * 4294967296 + number) % 2 ^ 32 ≡ number
    low = omega (arith, small)

    high : (row * 4294967296 + number) / 2 ^ 32 ≡ row
    high = omega (arith, small)

-- the number of each pair's beginning is small
pub small_number : (ys : List ℕ) (k : ℕ) (p : ℕ × ℕ) → IsPairAt (map pair_of ys) k p → p.0 < 2 ^ 32
small_number [] k p h = absurd (let l = h.0 in omega (arith, l))
small_number (y ∷ ys) zero p h = subst (λ (q : ℕ × ℕ). q.0 < 2 ^ 32) h.1 (omega arith)
small_number (y ∷ ys) (suc k) p h = small_number ys k p (let l = h.0 in omega (arith, l), h.1)

-- whether a pair is there
module _ (ys : List ℕ) (key : ℕ) (p : ℕ × ℕ) (is : pair_of key ≡ p) where
  any_is : list_any (same p) (map pair_of ys) ≡ list_any (nat_eq key) ys
  any_is = ap (λ q. list_any (same q) (map pair_of ys)) (sym is) ∙ any_pair key ys

  pub there : (found : Bool) → found ≡ list_any (nat_eq key) ys → (found ≡ true) ↔ ((k : ℕ) × IsPairAt (map pair_of ys) k p)
  there found e = (
    (λ h. found_at (map pair_of ys) p (any_is ∙ sym e ∙ h)),
    (λ h. e ∙ sym any_is ∙ at_found (map pair_of ys) p h.0 h.1),
  )

  -- what inserting it gives
  module _ (new : List ℕ) (keys : new ≡ insert_key nat_eq ys key) where
    whole : map pair_of new ≡ insert_key same (map pair_of ys) p
    whole = ap (map pair_of) keys ∙ pair_inserted ys key ∙ ap (insert_key same (map pair_of ys)) is

    fresh : (added : Bool) → added ≡ not (list_any (nat_eq key) ys) → added ≡ not (list_any (same p) (map pair_of ys))
    fresh added e = e ∙ ap not (sym any_is)

    pub pairs_after : (added : Bool) → added ≡ not (list_any (nat_eq key) ys) → map pair_of new ≡ (if added then map pair_of ys ++ p ∷ [] else map pair_of ys)
    pairs_after added e = inserted (map pair_of ys) p (map pair_of new) whole added (fresh added e)

    pub pair_stands : (n y : ℕ) → slice_get new n ≡ Some y → nat_eq key y ≡ true → IsPairAt (map pair_of new) n p
    pair_stands n y at alike =
        inserted_at (map pair_of ys) p (map pair_of new) whole n (pair_of y) (pair_at new n y at)
        (is_same p (pair_of y) (sym is ∙ ap pair_of (eqb-true key y alike)))

    pub pair_new : (added : Bool) → added ≡ not (list_any (nat_eq key) ys) → added ≡ true → (k : ℕ) → IsPairAt (map pair_of ys) k p → ⊥
    pair_new added e = inserted_new (map pair_of ys) p (map pair_of new) whole added (fresh added e)
