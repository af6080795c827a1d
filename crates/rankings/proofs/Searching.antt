-- A loop that looks at the elements of a list one by one.
use Rattle.std.proofs.Common.{◌≡◌, ◌||◌, ◌&&◌, ◌+◌, ◌≤◌, ◌<◌, ℕ, Bool, true, false, List, length, drop, get_or, sym, ap, ◌∙◌}
use Rattle.std.specs.List.{list_all, list_any}
use Rattle.std.proofs.lemmas.List.{drop_all, drop_more}

module _ {A : Type 0} (test : A → Bool) (xs : List A) (i : ℕ) where
  -- whether an element passes a test
  module _ (so_far : list_any test (drop i xs) ≡ list_any test xs) where
    any_turn : (d : A) (b : Bool) → i < length xs → test (get_or xs i d) ≡ b → list_any test (drop i xs) ≡ (b || list_any test (drop (i + 1) xs))
    any_turn d b h e = ap (list_any test) (drop_more xs i d h) ∙ ap (λ (t : Bool). t || list_any test (drop (i + 1) xs)) e

    pub any_hit : (d : A) → i < length xs → test (get_or xs i d) ≡ true → true ≡ list_any test xs
    any_hit d h e = sym (any_turn d true h e) ∙ so_far

    pub any_miss : (d : A) → i < length xs → test (get_or xs i d) ≡ false → list_any test (drop (i + 1) xs) ≡ list_any test xs
    any_miss d h e = sym (any_turn d false h e) ∙ so_far

    pub any_end : length xs ≤ i → false ≡ list_any test xs
    any_end h = ap (list_any test) (sym (drop_all i xs h)) ∙ so_far

  -- whether all elements do
  module _ (so_far : list_all test (drop i xs) ≡ list_all test xs) where
    all_turn : (d : A) (b : Bool) → i < length xs → test (get_or xs i d) ≡ b → list_all test (drop i xs) ≡ (b && list_all test (drop (i + 1) xs))
    all_turn d b h e = ap (list_all test) (drop_more xs i d h) ∙ ap (λ (t : Bool). t && list_all test (drop (i + 1) xs)) e

    pub all_hit : (d : A) → i < length xs → test (get_or xs i d) ≡ true → list_all test (drop (i + 1) xs) ≡ list_all test xs
    all_hit d h e = sym (all_turn d true h e) ∙ so_far
