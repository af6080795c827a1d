-- What one call of a set of cursors shows, as its parts stand to the set before.
use Rattle.std.proofs.Common.{◌≡◌, ℕ, zero, suc, ◌+◌, ◌<◌, ◌≤◌, Bool, false, if◌then◌else◌, false, Option, Some, None, IsSomeAnd, IfSome, List, [], ◌∷◌, ◌++◌, length, get_or, map, length-append, inl, inr, refl, sym, ap, ◌∙◌, subst, arith}
use mir.Syntax.{w64}
use mir.Val.{Fits}
use Rattle.std.proofs.Math.ListN.{set}
use Rattle.std.specs.Prelude.{Vec}
use Rattle.std.specs.Global.{Global}
use Rattle.std.specs.List.{All, slice_get}
use Rattle.std.proofs.lemmas.Bool.{false≢true}
use Rattle.std.proofs.lemmas.List.Elements.{All-set}
use Rattle.tdp_core.specs.AnswerView.{AnswerView}
use Rattle.cursor_set.specs.CursorSet.{CursorSet, IsKnownAt, place_of, seen_of, with_place}
use Rattle.cursor_set.proofs.Driving.{in_range}
use Rattle.std.proofs.lemmas.Option.{same_Some}

-- # Lists

none_of : (o : Option ℕ) → ((x : ℕ) → o ≡ Some x → ⊥) → o ≡ None
none_of None h = refl
none_of (Some x) h = absurd (h x refl)

at_most_more : (o : Option ℕ) (m n : ℕ) → m ≤ n → IfSome o (λ x. x ≤ m) → IfSome o (λ x. x ≤ n)
at_most_more None m n h k = tt
at_most_more (Some x) m n h k = omega arith

-- places within what was found are within what is found later
pub places_more : (l : List (Option ℕ)) (m n : ℕ) → m ≤ n → All (λ p. IfSome p (λ x. x ≤ m)) l → All (λ p. IfSome p (λ x. x ≤ n)) l
places_more l m n h a = λ k d b. at_most_more (get_or l k d) m n h (a k d b)

pub places_set : (l : List (Option ℕ)) (i m n p : ℕ) → m ≤ n → p ≤ n → All (λ p. IfSome p (λ x. x ≤ m)) l → All (λ p. IfSome p (λ x. x ≤ n)) (set l i (Some p))
places_set l i m n p h k a = All-set (λ p. IfSome p (λ x. x ≤ n)) l i (Some p) k (places_more l m n h a)

pub place_within : (l : List (Option ℕ)) (i m p : ℕ) → All (λ p. IfSome p (λ x. x ≤ m)) l → get_or l i None ≡ Some p → p ≤ m
place_within l i m p a e = subst (λ o. IfSome o (λ x. x ≤ m)) e (a i None (in_range l i p e))

module _ {A : Type 0} where
  pub one_longer : (xs ys : List A) (a : A) (m n : ℕ) → m ≡ length xs → n ≡ length ys → ys ≡ xs ++ a ∷ [] → n ≡ m + 1
  one_longer xs ys a m n h k e = omega (arith, h, k, ap length e, length-append xs (a ∷ []))

  pub as_long : (xs ys : List A) (m n : ℕ) → m ≡ length xs → n ≡ length ys → ys ≡ xs → n ≡ m
  as_long xs ys m n h k e = k ∙ ap length e ∙ sym h

-- the next place fits its type
pub next_fits : {A : Type 0} (found : Vec A Global) (place : ℕ) → place + 1 ≤ found.len → Fits w64 (place + 1)
next_fits found place h = omega (arith, h)

module _ {A B : Type 0} (f : A → B) where
  -- one of the answers that were found
  pub found_at : (items : List A) (rest : List B) (p : ℕ) (x : A) → p < length items → x ≡ get_or items p x → slice_get (map f items ++ rest) p ≡ Some (f x)
  found_at [] rest p x h e = absurd (omega arith)
  found_at (y ∷ ys) rest zero x h e = ap (λ z. Some (f z)) (sym e)
  found_at (y ∷ ys) rest (suc p) x h e = found_at ys rest p x (omega arith) e

  -- the first that was not found
  pub next_at : (items : List A) (rest rest' : List B) (p : ℕ) (x : B) → p ≡ length items → rest ≡ x ∷ rest' → slice_get (map f items ++ rest) p ≡ Some x
  next_at [] rest rest' zero x h e = ap (λ l. slice_get l 0) e
  next_at [] rest rest' (suc p) x h e = absurd (omega arith)
  next_at (y ∷ ys) rest rest' zero x h e = absurd (omega arith)
  next_at (y ∷ ys) rest rest' (suc p) x h e = next_at ys rest rest' p x (omega arith) e

  pushed_same : (items : List A) (a : A) (rest rest' : List B) → rest ≡ f a ∷ rest' → map f (items ++ a ∷ []) ++ rest' ≡ map f items ++ rest
  pushed_same [] a rest rest' e = sym e
  pushed_same (y ∷ ys) a rest rest' e = ap (λ l. f y ∷ l) (pushed_same ys a rest rest' e)

  pub answers_pushed : (items items' : List A) (a : A) (rest rest' : List B) → items' ≡ items ++ a ∷ [] → rest ≡ f a ∷ rest' → map f items' ++ rest' ≡ map f items ++ rest
  answers_pushed items items' a rest rest' e r = ap (λ l. map f l ++ rest') e ∙ pushed_same items a rest rest' r

  pub answers_same : (items items' : List A) (rest rest' : List B) → items' ≡ items → rest' ≡ rest → map f items' ++ rest' ≡ map f items ++ rest
  answers_same items items' rest rest' e r = ap (λ l. map f l ++ rest') e ∙ ap (λ l. map f items ++ l) r

  pub all_found : (items : List A) (rest : List B) → rest ≡ [] → length (map f items ++ rest) ≡ length items
  all_found [] rest e = ap length e
  all_found (y ∷ ys) rest e = ap suc (all_found ys rest e)

-- # A set, of which `v` is the view

pub moved_only : (v old new : CursorSet) → v ≡ old → new ≡ record v { places = new.places } → new ≡ record old { places = new.places }
moved_only v old new e h = subst (λ x. new ≡ record x { places = new.places }) e h

pub at_most_same : (n : ℕ) → n ≤ n
at_most_same n = omega arith

pub steps_more : (n k : ℕ) → n ≤ n + k
steps_more n k = omega arith

pub steps_over : (n k l : ℕ) → n ≤ n + k + l
steps_over n k l = omega arith

pub steps_within : (m n k : ℕ) → m ≤ n → m ≤ n + k
steps_within m n k h = omega arith

-- how much of the list was seen, by what was found and whether the end was seen
pub seen_more : (v old : CursorSet) (known : ℕ) (ended : Bool) → v ≡ old → known + (if ended then 1 else 0) ≤ seen_of v + 1 → known + (if ended then 1 else 0) ≤ seen_of old + 1
seen_more v old known ended e h = subst (λ s. known + (if ended then 1 else 0) ≤ seen_of s + 1) e h

-- a cursor that is not open
pub not_open : (v old : CursorSet) (id : ℕ) → v ≡ old → ((x : ℕ) → place_of v id ≡ Some x → ⊥) → place_of old id ≡ None
not_open v old id e h = ap (λ s. place_of s id) (sym e) ∙ none_of (place_of v id) h

-- a cursor at the end of a list that was found to its end
pub end_there : (v old : CursorSet) (id p n : ℕ) → v ≡ old → place_of v id ≡ Some p → n ≡ p → length v.answers ≡ n → place_of old id ≡ Some (length old.answers)
end_there v old id p n e at same all =
    subst (λ s. place_of s id ≡ Some (length s.answers)) e (at ∙ ap Some (sym same ∙ sym all))

-- the answer at the place of a cursor, which moved on
pub some_at : (v old : CursorSet) (id p known : ℕ) (places : List (Option ℕ)) (r : AnswerView) → v ≡ old → place_of v id ≡ Some p → slice_get v.answers p ≡ Some r → places ≡ set v.places id (Some (p + 1)) → p + 1 ≤ known → IsSomeAnd (place_of old id) (λ place. (slice_get old.answers place ≡ Some r) × (places ≡ (with_place old id (Some (place + 1))).places) × (place + 1 ≤ known))
some_at v old id p known places r e at got same within =
    subst (λ x. IsSomeAnd (place_of x id) (λ place. (slice_get x.answers place ≡ Some r) × (places ≡ (with_place x id (Some (place + 1))).places) × (place + 1 ≤ known))) e
    (subst (λ o. IsSomeAnd o (λ place. (slice_get v.answers place ≡ Some r) × (places ≡ (with_place v id (Some (place + 1))).places) × (place + 1 ≤ known))) (sym at) (got, same, within))

-- a cursor behind all that was found, where the end was not seen
pub refused_there : (v old : CursorSet) (id p : ℕ) → v ≡ old → place_of v id ≡ Some p → v.known ≤ p → v.ended ≡ false → IsSomeAnd (place_of old id) (λ place. (old.known ≤ place) × (old.ended ≡ false))
refused_there v old id p e at behind open' =
    subst (λ x. IsSomeAnd (place_of x id) (λ place. (x.known ≤ place) × (x.ended ≡ false))) e (subst (λ o. IsSomeAnd o (λ place. (v.known ≤ place) × (v.ended ≡ false))) (sym at) (behind, open'))

pub not_known_there : (v old : CursorSet) (id p : ℕ) → v ≡ old → place_of v id ≡ Some p → v.known ≤ p → v.ended ≡ false → IsKnownAt old id → ⊥
not_known_there v old id p e at behind open' k =
    let h : IsKnownAt v id = subst (λ x. IsKnownAt x id) (sym e) k in
    let same : p ≡ h.0 = same_Some p h.0 (sym at ∙ h.1) in
    elim h.2 [
      | inl here ↦ omega (arith, here)
      | inr end ↦ false≢true (sym open' ∙ end)
    ]
