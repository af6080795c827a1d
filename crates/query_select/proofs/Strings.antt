-- The end of a string.
use Rattle.std.proofs.Common.{◌≡◌, ℕ, suc, ◌+◌, ◌<◌, ◌≤◌, List, [], ◌∷◌, length, Option, Some, None, Bool, true, false, cond, eqb, refl, ap, subst, ◌∙◌, arith}
use Rattle.std.specs.Option.{option_map, option_map_or}
use Rattle.query_select.specs.Tokens.{closing}

-- the quote at this place ends a string
pub data EndsAt : List ℕ → ℕ → Type 0 where
  ends : {b : ℕ} {more : List ℕ} → eqb b 39 ≡ true → EndsAt (b ∷ more) 0
  plain : {b n : ℕ} {bs : List ℕ} → eqb b 39 ≡ false → EndsAt bs n → EndsAt (b ∷ bs) (suc n)
  pair : {b c n : ℕ} {bs : List ℕ} → eqb b 39 ≡ true → eqb c 39 ≡ true → EndsAt bs n → EndsAt (b ∷ c ∷ bs) (suc (suc n))

pub within_of : (bs : List ℕ) (n : ℕ) → EndsAt bs n → n < length bs
within_of _ _ (ends e) = omega arith
within_of _ _ (plain e h) = omega (arith, within_of _ _ h)
within_of _ _ (pair e f h) = omega (arith, within_of _ _ h)

-- ---- the longest string is found

-- a string ends at some place, and at none before n
pub record Found (o : Option ℕ) (n : ℕ) : Type 0 where
  pub place : ℕ
  pub is : o ≡ Some place
  pub later : n ≤ place

closing_plain : (b : ℕ) (bs : List ℕ) → eqb b 39 ≡ false → closing (b ∷ bs) ≡ option_map (λ n. n + 1) (closing bs)
unfolding closing
closing_plain b [] e = rw e refl
closing_plain b (c ∷ bs) e = rw e refl

closing_quote : (b : ℕ) (bs : List ℕ) → eqb b 39 ≡ true → Found (closing (b ∷ bs)) 0
unfolding closing
closing_quote b [] e = record { place = 0; is = rw e refl; later = omega arith }
closing_quote b (c ∷ bs) e = record { place = cond (eqb c 39) (option_map_or (λ n. n + 2) (closing bs) 0) 0; is = rw e refl; later = omega arith }

closing_pair : (b c : ℕ) (bs : List ℕ) → eqb b 39 ≡ true → eqb c 39 ≡ true → closing (b ∷ c ∷ bs) ≡ Some (option_map_or (λ n. n + 2) (closing bs) 0)
unfolding closing
closing_pair b c bs e f = rw (e, f) refl

pub found_of : (bs : List ℕ) (n : ℕ) → EndsAt bs n → Found (closing bs) n
found_of _ _ (ends {b = b} {more = more} e) = closing_quote b more e
found_of _ _ (plain {b = b} {n = n} {bs = bs} e h) =
    let f = found_of bs n h in
    let below : n ≤ f.place = f.later in
    record { place = f.place + 1; is = closing_plain b bs e ∙ ap (option_map (λ n. n + 1)) f.is; later = omega arith }
found_of _ _ (pair {b = b} {c = c} {n = n} {bs = bs} e g h) =
    let f = found_of bs n h in
    let below : n ≤ f.place = f.later in
    record { place = f.place + 2; is = closing_pair b c bs e g ∙ ap (λ (o : Option ℕ). Some (option_map_or (λ n. n + 2) o 0)) f.is; later = omega arith }

-- ---- what is found ends a string

one_is : (b : ℕ) (t : Bool) (m : ℕ) → eqb b 39 ≡ t → cond t (Some 0) None ≡ Some m → EndsAt (b ∷ []) m
one_is b true m e h = let k : 0 ≡ m = cc in subst (EndsAt (b ∷ [])) k (ends e)
one_is b false m e h = absurd cc

two_are : (b c : ℕ) (bs : List ℕ) (t u : Bool) (o p : Option ℕ) (m : ℕ) → eqb b 39 ≡ t → eqb c 39 ≡ u
    → ((n : ℕ) → o ≡ Some n → EndsAt bs n) → ((n : ℕ) → p ≡ Some n → EndsAt (c ∷ bs) n)
    → cond t (Some (cond u (option_map_or (λ n. n + 2) o 0) 0)) (option_map (λ n. n + 1) p) ≡ Some m → EndsAt (b ∷ c ∷ bs) m
two_are b c bs true true None p m e f g k h = let z : 0 ≡ m = cc in subst (EndsAt (b ∷ c ∷ bs)) z (ends e)
two_are b c bs true true (Some n) p m e f g k h =
    let s : n + 2 ≡ m = cc in
    let is : suc (suc n) ≡ m = omega arith in
    subst (EndsAt (b ∷ c ∷ bs)) is (pair e f (g n refl))
two_are b c bs true false o p m e f g k h = let z : 0 ≡ m = cc in subst (EndsAt (b ∷ c ∷ bs)) z (ends e)
two_are b c bs false u o None m e f g k h = absurd cc
two_are b c bs false u o (Some n) m e f g k h =
    let s : n + 1 ≡ m = cc in
    let is : suc n ≡ m = omega arith in
    subst (EndsAt (b ∷ c ∷ bs)) is (plain e (k n refl))

pub ends_at : (bs : List ℕ) (m : ℕ) → closing bs ≡ Some m → EndsAt bs m
unfolding closing
ends_at [] m h = absurd cc
ends_at (b ∷ []) m h = one_is b (eqb b 39) m refl h
ends_at (b ∷ c ∷ bs) m h = two_are b c bs (eqb b 39) (eqb c 39) (closing bs) (closing (c ∷ bs)) m refl refl (λ n e. ends_at bs n e) (λ n e. ends_at (c ∷ bs) n e) h

pub closing_within : (bs : List ℕ) (n : ℕ) → closing bs ≡ Some n → n < length bs
closing_within bs n h = within_of bs n (ends_at bs n h)

-- ---- what the loop over the bytes keeps

-- the last place so far at which the string could end, and whether the byte before this one is that
-- quote
unfoldable pub closing_from : Option ℕ → Bool → ℕ → List ℕ → Option ℕ
closing_from end half at [] = end
closing_from end true at (b ∷ bs) = cond (eqb b 39) (closing_from end false (at + 1) bs) end
closing_from end false at (b ∷ bs) = cond (eqb b 39) (closing_from (Some at) true (at + 1) bs) (closing_from end false (at + 1) bs)

-- the end that is found from here, or the last one before
abbrev last_end : Option ℕ → ℕ → Option ℕ → Option ℕ
last_end end at None = end
last_end end at (Some n) = Some (at + n)

one_from : (end : Option ℕ) (at : ℕ) (t : Bool) → cond t (Some at) end ≡ last_end end at (cond t (Some 0) None)
one_from end at true = ap (λ (n : ℕ). Some n) (omega arith)
one_from end at false = refl

two_from : (end : Option ℕ) (at : ℕ) (t u : Bool) (o p : Option ℕ)
    → cond t (cond u (last_end (Some at) ((at + 1) + 1) o) (Some at)) (last_end end (at + 1) p) ≡ last_end end at (cond t (Some (cond u (option_map_or (λ n. n + 2) o 0) 0)) (option_map (λ n. n + 1) p))
two_from end at true true None p = ap (λ (n : ℕ). Some n) (omega arith)
two_from end at true true (Some n) p = ap (λ (n : ℕ). Some n) (omega arith)
two_from end at true false o p = ap (λ (n : ℕ). Some n) (omega arith)
two_from end at false u o None = refl
two_from end at false u o (Some n) = ap (λ (n : ℕ). Some n) (omega arith)

from_is : (bs : List ℕ) (end : Option ℕ) (at : ℕ) → closing_from end false at bs ≡ last_end end at (closing bs)
unfolding closing closing_from
from_is [] end at = refl
from_is (b ∷ []) end at = one_from end at (eqb b 39)
from_is (b ∷ c ∷ bs) end at =
    let far : closing_from (Some at) false ((at + 1) + 1) bs ≡ last_end (Some at) ((at + 1) + 1) (closing bs) = from_is bs (Some at) ((at + 1) + 1) in
    let near : closing_from end false (at + 1) (c ∷ bs) ≡ last_end end (at + 1) (closing (c ∷ bs)) = from_is (c ∷ bs) end (at + 1) in
    ap (λ (x : Option ℕ). cond (eqb b 39) (cond (eqb c 39) x (Some at)) (closing_from end false (at + 1) (c ∷ bs))) far
    ∙ ap (λ (x : Option ℕ). cond (eqb b 39) (cond (eqb c 39) (last_end (Some at) ((at + 1) + 1) (closing bs)) (Some at)) x) near
    ∙ two_from end at (eqb b 39) (eqb c 39) (closing bs) (closing (c ∷ bs))

whole : (o : Option ℕ) → last_end None 0 o ≡ o
whole None = refl
whole (Some n) = ap (λ (k : ℕ). Some k) (omega arith)

pub closing_from_start : (bs : List ℕ) → closing_from None false 0 bs ≡ closing bs
closing_from_start bs = from_is bs None 0 ∙ whole (closing bs)
