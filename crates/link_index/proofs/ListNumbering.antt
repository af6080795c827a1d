-- Lists of values that get numbers, one after another.
use Rattle.std.proofs.Common.{◌≡◌, ◌⊎◌, ◌<◌, ◌+◌, ℕ, Bool, true, false, not, cond, nat_eq, if◌then◌else◌, List, [], ◌∷◌, ◌++◌, map, length, get_or, position, Some, None, refl, sym, ap, subst, ◌∙◌, inl, inr, arith, eqb-true, length-append}
use Rattle.std.specs.Cmp.Lexicographic.{bytes_decides, pointwise}
use Rattle.std.specs.List.{list_any, position_or_len}
use Rattle.std.specs.HashSet.{HashSet}
use Rattle.std.proofs.Math.ListN.{set}
use Rattle.std.proofs.lemmas.Bool.{cases_eq, lt-ltb}
use Rattle.std.proofs.lemmas.List.{get_or-map, get_or-set_other, get_or-set_same, get_or_append_left, length-map, length-set, map-append, map-set}
use Rattle.std.proofs.lemmas.List.Folds.{position_or_len_push}
use Rattle.std.proofs.lemmas.List.Quantifiers.{position-Some}
use Rattle.std.proofs.lemmas.List.Sums.{position_or_len_is}
use Rattle.indexmap.specs.IndexSet.{insert_key}
use Rattle.smallvec.specs.SmallVec.{SmallVec}
use Rattle.link_index.specs.NumberedLists.{AreMore, IsNumbered, lists_in}

-- places in a list, by a test
module _ {X : Type 0} (p : X → Bool) where
  pub place_is : (xs : List X) (n : ℕ) → n < length xs → position_or_len p xs ≡ n → position p xs ≡ Some n
  place_is xs n inside is =
      let less : position_or_len p xs < length xs = omega (arith, inside, is) in
      ap (λ b. cond b (Some (position_or_len p xs)) None) (lt-ltb (position_or_len p xs) (length xs) less) ∙ ap (λ k. Some k) is

  -- a place stays when an element is added at the end
  place_kept : (xs : List X) (y d : X) (n : ℕ) → position p xs ≡ Some n → position p (xs ++ y ∷ []) ≡ Some n
  place_kept xs y d n e =
      let at = position-Some p xs n d e in
      let size = length-append xs (y ∷ []) in
      let long : n < length (xs ++ y ∷ []) = omega (arith, at.0, size) in
      place_is (xs ++ y ∷ []) n long
      (position_or_len_is p (xs ++ y ∷ []) n d (omega (arith, long))
      (λ k l. ap p (get_or_append_left xs (y ∷ []) d k (omega (arith, l, at.0))) ∙ at.2 k l)
      (λ _. ap p (get_or_append_left xs (y ∷ []) d n at.0) ∙ at.1))

  -- so does that of the element itself
  place_put : (xs : List X) (y : X) → p y ≡ true → position_or_len p (xs ++ y ∷ []) ≡ position_or_len p xs
  place_put xs y passes = position_or_len_push p xs y ∙ by (nat_eq (position_or_len p xs) (length xs)) refl
    where
      by : (b : Bool) → nat_eq (position_or_len p xs) (length xs) ≡ b → cond b (length xs + cond (p y) 0 1) (position_or_len p xs) ≡ position_or_len p xs
      by true e =
          let same : position_or_len p xs ≡ length xs = eqb-true (position_or_len p xs) (length xs) e in
          ap (λ b. length xs + cond b 0 1) passes ∙ omega (arith, same)
      by false e = refl

-- a test of the elements that a function gives
place_map : {X Y : Type 0} (f : X → Y) (p : Y → Bool) (xs : List X) → position_or_len p (map f xs) ≡ position_or_len (λ x. p (f x)) xs
place_map f p [] = refl
place_map f p (x ∷ xs) = ap (λ k. cond (not (p (f x))) (1 + k) 0) (place_map f p xs)

-- the new list of lists is the old one, or has y as its last
abbrev IsGrown : List (List ℕ) → List ℕ → List (List ℕ) → Type 0
IsGrown old y new = (new ≡ old) ⊎ (new ≡ old ++ y ∷ [])

module _ (lists : List (List (List ℕ))) (q : ℕ) (y : List ℕ) (now : List (List ℕ)) (inside : q < length lists) (grown : IsGrown (get_or lists q []) y now) where
  stays : (values : List ℕ) (n : ℕ) → position (pointwise nat_eq values) (get_or lists q []) ≡ Some n → position (pointwise nat_eq values) now ≡ Some n
  stays values n e = elim grown [
    | inl same ↦ ap (position (pointwise nat_eq values)) same ∙ e
    | inr put ↦ ap (position (pointwise nat_eq values)) put ∙ place_kept (pointwise nat_eq values) (get_or lists q []) y [] n e
  ]

  -- a list that is added lets the others keep their numbers
  more_lists : AreMore lists (set lists q now)
  more_lists = record {
    count = length-set lists q now;
    kept = λ u n values e. elim (cases_eq u q) [
      | inl same ↦
          let test : List ℕ → Bool = pointwise nat_eq values in
          let before : position test (get_or lists q []) ≡ Some n = subst (λ (w : ℕ). position test (get_or lists w []) ≡ Some n) same e in
          let here : get_or (set lists q now) u [] ≡ now = ap (λ (w : ℕ). get_or (set lists q now) w []) same ∙ get_or-set_same lists q now [] inside in
          ap (position test) here ∙ stays values n before
      | inr other ↦ ap (position (pointwise nat_eq values)) (get_or-set_other lists q u now [] other) ∙ e
    ];
  }

-- there are as many sets as nodes
pub there_too : {S : Type 0} (sets : List (HashSet (SmallVec ℕ) S)) (q : ℕ) (lists : List (List (List ℕ))) → lists_in sets ≡ lists → q < length lists → q < length sets
there_too sets q lists is inside =
    let size = ap (λ (xs : List (List (List ℕ))). length xs) is in
    omega (arith, size, length-map sets (λ s. map (λ v. v.items) s.keys), inside)

abbrev same : SmallVec ℕ → SmallVec ℕ → Bool
same a b = pointwise nat_eq a.items b.items

-- the lists of a set
abbrev lists_of : {S : Type 0} → HashSet (SmallVec ℕ) S → List (List ℕ)
lists_of s = map (λ v. v.items) s.keys

-- the sets after a list was put into one of them
module _ {S : Type 0} (sets : List (HashSet (SmallVec ℕ) S)) (q : ℕ) (old new : HashSet (SmallVec ℕ) S) (value : SmallVec ℕ)
    (inside : q < length sets) (at : old ≡ get_or sets q old) (keys : new.keys ≡ insert_key same old.keys value) where
  lists_before : get_or (lists_in sets) q [] ≡ lists_of old
  lists_before = get_or-map (λ (s : HashSet (SmallVec ℕ) S). lists_of s) sets q old [] inside ∙ ap (λ (s : HashSet (SmallVec ℕ) S). lists_of s) (sym at)

  lists_now : lists_in (set sets q new) ≡ set (lists_in sets) q (lists_of new)
  lists_now = map-set (λ (s : HashSet (SmallVec ℕ) S). lists_of s) sets q new

  lists_inside : q < length (lists_in sets)
  lists_inside = omega (arith, length-map sets (λ (s : HashSet (SmallVec ℕ) S). lists_of s), inside)

  is_grown : (b : Bool) → new.keys ≡ (if b then old.keys else old.keys ++ value ∷ []) → IsGrown (get_or (lists_in sets) q []) value.items (lists_of new)
  is_grown true e = inl (ap (map (λ v. v.items)) e ∙ sym lists_before)
  is_grown false e = inr (ap (map (λ v. v.items)) e ∙ map-append (λ v. v.items) old.keys (value ∷ []) ∙ ap (λ (xs : List (List ℕ)). xs ++ value.items ∷ []) (sym lists_before))

  pub put_more : AreMore (lists_in sets) (lists_in (set sets q new))
  put_more = subst (AreMore (lists_in sets)) (sym lists_now)
      (more_lists (lists_in sets) q value.items (lists_of new) lists_inside (is_grown (list_any (same value) old.keys) keys))

  put_place : (b : Bool) → new.keys ≡ (if b then old.keys else old.keys ++ value ∷ []) → position_or_len (same value) new.keys ≡ position_or_len (same value) old.keys
  put_place true e = ap (position_or_len (same value)) e
  put_place false e = ap (position_or_len (same value)) e ∙ place_put (same value) old.keys value ((bytes_decides value.items value.items).1 refl)

  pub put_number : (n : ℕ) → n ≡ position_or_len (same value) old.keys → n < length new.keys → IsNumbered (lists_in (set sets q new)) q n value.items
  put_number n place within =
      let test : List ℕ → Bool = pointwise nat_eq value.items in
      let here : get_or (lists_in (set sets q new)) q [] ≡ lists_of new = ap (λ (xs : List (List (List ℕ))). get_or xs q []) lists_now ∙ get_or-set_same (lists_in sets) q (lists_of new) [] lists_inside in
      let is : position_or_len test (lists_of new) ≡ n = place_map (λ v. v.items) test new.keys ∙ put_place (list_any (same value) old.keys) keys ∙ sym place in
      ap (position test) here ∙ place_is test (lists_of new) n (omega (arith, length-map new.keys (λ v. v.items), within)) is
