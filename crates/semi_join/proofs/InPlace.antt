-- Lists whose front is written anew while the rest is still read.
use Rattle.std.proofs.Common.{◌≡◌, ◌≢◌, ℕ, zero, suc, ◌+◌, ◌<◌, ◌≤◌, List, [], ◌∷◌, ◌++◌, length, take, get_or, slice_get, refl, sym, ap, subst, ◌∙◌, inl, inr, arith}
use Rattle.std.specs.List.{All}
use Rattle.std.proofs.Math.ListN.{set, length-set}
use Rattle.std.proofs.lemmas.Bool.{cases_eq}
use Rattle.std.proofs.lemmas.List.{get_or-set_other, get_or-set_same, set-set, take_more_set}
use Rattle.std.proofs.lemmas.List.Elements.{All-set}

-- from place i on the list is still as it was
pub record IsTail {X : Type 0} (i : ℕ) (old now : List X) : Type 0 where
  pub long : length now ≡ length old
  pub same : (k : ℕ) → i ≤ k → slice_get now k ≡ slice_get old k

slice_get-set_other : {X : Type 0} (xs : List X) (i k : ℕ) (x : X) → i < k → slice_get (set xs i x) k ≡ slice_get xs k
slice_get-set_other [] i k x less = refl
slice_get-set_other (y ∷ xs) i zero x less = absurd (omega (arith, less))
slice_get-set_other (y ∷ xs) zero (suc k) x less = refl
slice_get-set_other (y ∷ xs) (suc i) (suc k) x less = slice_get-set_other xs i k x (omega (arith, less))

get_or-same : {X : Type 0} (xs ys : List X) (k : ℕ) (d : X) → slice_get xs k ≡ slice_get ys k → get_or xs k d ≡ get_or ys k d
get_or-same [] [] k d e = refl
get_or-same [] (y ∷ ys) zero d e = cc
get_or-same [] (y ∷ ys) (suc k) d e = get_or-same [] ys k d e
get_or-same (x ∷ xs) [] zero d e = cc
get_or-same (x ∷ xs) [] (suc k) d e = get_or-same xs [] k d e
get_or-same (x ∷ xs) (y ∷ ys) zero d e = cc
get_or-same (x ∷ xs) (y ∷ ys) (suc k) d e = get_or-same xs ys k d e

module _ {X : Type 0} (i : ℕ) (old now : List X) where
  pub whole_tail : now ≡ old → IsTail i old now
  whole_tail is = record { long = ap length is; same = λ k h. ap (λ l. slice_get l k) is }

  pub tail_read : IsTail i old now → (d : X) → get_or now i d ≡ get_or old i d
  tail_read tail d = get_or-same now old i d (tail.same i (omega arith))

  pub next_tail : IsTail i old now → IsTail (i + 1) old now
  next_tail tail = record { long = tail.long; same = λ k h. tail.same k (omega (arith, h)) }

  -- a write before the place after i
  pub tail_set : IsTail i old now → (to : ℕ) (x : X) (new : List X) → to ≤ i → new ≡ set now to x → IsTail (i + 1) old new
  tail_set tail to x new front is = record {
    long = ap length is ∙ length-set now to x ∙ tail.long;
    same = λ k h. ap (λ l. slice_get l k) is ∙ slice_get-set_other now to k x (omega (arith, front, h)) ∙ tail.same k (omega (arith, h));
  }

-- a number put into row `to`, of which the first ones are done, while row `from` is read
module _ (old now new : List (List ℕ)) (from to place n w : ℕ) (is : new ≡ set now to (set (get_or now to []) place n)) (inside : to < length now)
    (others : now ≡ set old to (get_or now to [])) (wide : All (λ ks. length ks ≡ w) now) (within : place < w) where
  row_now : get_or new to [] ≡ set (get_or now to []) place n
  row_now = ap (λ l. get_or l to []) is ∙ get_or-set_same now to (set (get_or now to []) place n) [] inside

  row_wide : length (get_or now to []) ≡ w
  row_wide = wide to [] inside

  pub row_more : take (place + 1) (get_or new to []) ≡ take place (get_or now to []) ++ n ∷ []
  row_more = ap (take (place + 1)) row_now ∙ take_more_set (get_or now to []) place n (omega (arith, row_wide, within))

  pub others_more : new ≡ set old to (get_or new to [])
  others_more =
      is ∙ ap (λ l. set l to (set (get_or now to []) place n)) others ∙ set-set old to (get_or now to []) (set (get_or now to []) place n) ∙ ap (set old to) (sym row_now)

  pub ahead_more : (c : ℕ) → place + 1 ≤ c → get_or (get_or new from []) c 0 ≡ get_or (get_or now from []) c 0
  ahead_more c later = elim (cases_eq from to) [
    | inl same ↦
        let other : c ≢ place = λ e. omega (arith, e, later) in
        ap (λ k. get_or (get_or new k []) c 0) same ∙ ap (λ l. get_or l c 0) row_now ∙ get_or-set_other (get_or now to []) place c n 0 other ∙ ap (λ k. get_or (get_or now k []) c 0) (sym same)
    | inr differ ↦ ap (λ l. get_or (get_or l from []) c 0) is ∙ ap (λ l. get_or l c 0) (get_or-set_other now to from (set (get_or now to []) place n) [] differ)
  ]

  pub wide_more : All (λ ks. length ks ≡ w) new
  wide_more = subst (All (λ ks. length ks ≡ w)) (sym is) (All-set (λ ks. length ks ≡ w) now to (set (get_or now to []) place n) (length-set (get_or now to []) place n ∙ row_wide) wide)
