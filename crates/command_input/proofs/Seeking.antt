-- What loops look for in a list, one element after another.
use Rattle.std.proofs.Common.{◌≡◌, ◌+◌, ◌<◌, ◌≤◌, ◌||◌, ◌∷◌, ℕ, Bool, true, false, not, cond, Some, None, List, find, length, drop, get_or, sym, ap, ◌∙◌, arith}
use Rattle.std.proofs.lemmas.List.{drop_all, drop_more}
use Rattle.std.specs.List.{list_any, position_or_len}

module _ {X : Type 0} (p : X → Bool) (xs : List X) (i : ℕ) where
  abbrev later : List X
  later = drop (i + 1) xs

  module _ (x : X) (inside : i < length xs) (is : x ≡ get_or xs i x) where
    first : drop i xs ≡ x ∷ later
    first = drop_more xs i x inside ∙ ap (λ y. y ∷ later) (sym is)

    -- the element at i passes
    pub any_here : p x ≡ true → list_any p (drop i xs) ≡ list_any p xs → true ≡ list_any p xs
    any_here passes so_far = sym (ap (λ b. b || list_any p later) passes) ∙ sym (ap (list_any p) first) ∙ so_far

    pub place_here : p x ≡ true → position_or_len p (drop i xs) + i ≡ position_or_len p xs → i ≡ position_or_len p xs
    place_here passes so_far =
        let here = ap (position_or_len p) first ∙ ap (λ b. cond (not b) (1 + position_or_len p later) 0) passes in omega (arith, here, so_far)

    pub found_here : p x ≡ true → find p (drop i xs) ≡ find p xs → Some x ≡ find p xs
    found_here passes so_far = sym (ap (λ b. cond b (Some x) (find p later)) passes) ∙ sym (ap (find p) first) ∙ so_far

    -- it does not
    pub any_later : p x ≡ false → list_any p (drop i xs) ≡ list_any p xs → list_any p later ≡ list_any p xs
    any_later fails so_far = sym (ap (λ b. b || list_any p later) fails) ∙ sym (ap (list_any p) first) ∙ so_far

    pub place_later : p x ≡ false → position_or_len p (drop i xs) + i ≡ position_or_len p xs
        → position_or_len p later + (i + 1) ≡ position_or_len p xs
    place_later fails so_far =
        let here = ap (position_or_len p) first ∙ ap (λ b. cond (not b) (1 + position_or_len p later) 0) fails in omega (arith, here, so_far)

    pub found_later : p x ≡ false → find p (drop i xs) ≡ find p xs → find p later ≡ find p xs
    found_later fails so_far = sym (ap (λ b. cond b (Some x) (find p later)) fails) ∙ sym (ap (find p) first) ∙ so_far

  -- none did
  pub any_none : length xs ≤ i → list_any p (drop i xs) ≡ list_any p xs → false ≡ list_any p xs
  any_none end so_far = sym (ap (list_any p) (drop_all i xs end)) ∙ so_far

  pub found_none : length xs ≤ i → find p (drop i xs) ≡ find p xs → None ≡ find p xs
  found_none end so_far = sym (ap (find p) (drop_all i xs end)) ∙ so_far
