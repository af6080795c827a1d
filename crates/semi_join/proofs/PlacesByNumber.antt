-- Rows put into groups by the numbers of their groups.
use Rattle.std.proofs.Common.{◌≡◌, ℕ, zero, suc, ◌+◌, ◌<◌, Bool, true, false, cond, nat_eq, nat_lt, ◌&&◌, ◌||◌, not, List, [], ◌∷◌, ◌++◌, map, length, get_or, All, refl, sym, ap, subst, ◌∙◌, arith, eq-eqb, eqb-true}
use Rattle.std.specs.List.{filter, concat, range_with_len}
use Rattle.std.specs.List.Sorted.{IsPermutation}
use Rattle.std.proofs.lemmas.Bool.{le-ltb, lt-ltb}
use Rattle.std.proofs.lemmas.Bool.Decides.{nat_tests}
use Rattle.std.proofs.lemmas.List.{get_or_default}
use Rattle.std.proofs.lemmas.List.Elements.{All-head, All-tail, All-filter, All-from_get_or, filter_passes}
use Rattle.std.proofs.lemmas.List.FromFn.{length-range_with_len, get_or-range_with_len, length-map-range_with_len, get_or-map-range_with_len}
use Rattle.std.proofs.lemmas.List.Sorted.{IsPermutation-refl, IsPermutation-sym, IsPermutation-trans, IsPermutation-cons, IsPermutation-middle, IsPermutation-append_right}
use Rattle.tdp_core.specs.RowGroups.{places_of, places_by_number}
use Rattle.semi_join.specs.Reduction.{IsGrouping, IsNumbering}

-- # The places of all numbers are the places of the list

module _ (number : ℕ → ℕ) where
  -- the places with this number, and those whose number is this one or more
  abbrev with_number : ℕ → List ℕ → List ℕ
  with_number a = filter (λ i. nat_eq (number i) a)

  abbrev from_number : ℕ → List ℕ → List ℕ
  from_number a = filter (λ i. not (nat_lt (number i) a))

  one_place : (q r : Bool) (x : ℕ) (ks es gs : List ℕ) → (q && r) ≡ false → IsPermutation ks (es ++ gs) → IsPermutation (cond (q || r) (x ∷ ks) ks) (cond q (x ∷ es) es ++ cond r (x ∷ gs) gs)
  one_place true true x ks es gs e h = cc
  one_place true false x ks es gs e h = IsPermutation-cons x ks (es ++ gs) h
  one_place false true x ks es gs e h =
      IsPermutation-trans (x ∷ ks) (x ∷ (es ++ gs)) (es ++ (x ∷ gs)) (IsPermutation-cons x ks (es ++ gs) h) (IsPermutation-sym (es ++ (x ∷ gs)) (x ∷ (es ++ gs)) (IsPermutation-middle es x gs))
  one_place false false x ks es gs e h = h

  splits : (n a : ℕ) → not (nat_lt n a) ≡ (nat_eq n a || not (nat_lt n (a + 1)))
  splits n a = grind (arith, nat_tests)

  apart : (n a : ℕ) → (nat_eq n a && not (nat_lt n (a + 1))) ≡ false
  apart n a = grind (arith, nat_tests)

  next_number : (a : ℕ) (xs : List ℕ) → IsPermutation (from_number a xs) (with_number a xs ++ from_number (a + 1) xs)
  next_number a [] = IsPermutation-refl []
  next_number a (x ∷ xs) =
      subst (λ p. IsPermutation (cond p (x ∷ from_number a xs) (from_number a xs)) (with_number a (x ∷ xs) ++ from_number (a + 1) (x ∷ xs))) (sym (splits (number x) a))
      (one_place (nat_eq (number x) a) (not (nat_lt (number x) (a + 1))) x (from_number a xs) (with_number a xs) (from_number (a + 1) xs) (apart (number x) a) (next_number a xs))

  none_from : (a : ℕ) (xs : List ℕ) → All (λ i. number i < a) xs → from_number a xs ≡ []
  none_from a [] h = refl
  none_from a (x ∷ xs) h =
      ap (λ b. cond (not b) (x ∷ from_number a xs) (from_number a xs)) (lt-ltb (number x) a (All-head (λ i. number i < a) x xs h)) ∙ none_from a xs (All-tail (λ i. number i < a) x xs h)

  all_from : (xs : List ℕ) → from_number 0 xs ≡ xs
  all_from [] = refl
  all_from (x ∷ xs) = ap (λ b. cond (not b) (x ∷ from_number 0 xs) (from_number 0 xs)) (le-ltb (number x) 0 (omega arith)) ∙ ap (λ l. x ∷ l) (all_from xs)

  all_numbers : (n a : ℕ) (xs : List ℕ) → All (λ i. number i < a + n) xs → IsPermutation (from_number a xs) (concat (map (λ k. with_number k xs) (range_with_len a n)))
  all_numbers zero a xs h =
      let same : a + 0 ≡ a = omega arith in
      subst (λ l. IsPermutation l []) (sym (none_from a xs (subst (λ k. All (λ i. number i < k) xs) same h))) (IsPermutation-refl [])
  all_numbers (suc n) a xs h =
      let same : a + suc n ≡ (a + 1) + n = omega arith in
      let rest = concat (map (λ k. with_number k xs) (range_with_len (a + 1) n)) in
      IsPermutation-trans (from_number a xs) (with_number a xs ++ from_number (a + 1) xs) (with_number a xs ++ rest) (next_number a xs)
      (IsPermutation-append_right (with_number a xs) (from_number (a + 1) xs) rest (all_numbers n (a + 1) xs (subst (λ k. All (λ i. number i < k) xs) same h)))

  -- the places of all numbers below n
  pub places_permute : (n : ℕ) (xs : List ℕ) → All (λ i. number i < n) xs → IsPermutation xs (concat (map (λ k. with_number k xs) (range_with_len 0 n)))
  places_permute n xs h =
      let same : 0 + n ≡ n = omega arith in
      subst (λ l. IsPermutation l (concat (map (λ k. with_number k xs) (range_with_len 0 n)))) (all_from xs) (all_numbers n 0 xs (subst (λ k. All (λ i. number i < k) xs) (sym same) h))

-- a number that passes is kept
some_kept : (p : ℕ → Bool) (xs : List ℕ) (i : ℕ) → i < length xs → p (get_or xs i 0) ≡ true → 0 < length (filter p xs)
some_kept p [] i h e = absurd (omega arith)
some_kept p (x ∷ xs) i h e = by (p x) i h refl e (λ k l t. some_kept p xs k l t)
  where
    by : (b : Bool) (i : ℕ) → i < suc (length xs) → p x ≡ b → p (get_or (x ∷ xs) i 0) ≡ true → ((k : ℕ) → k < length xs → p (get_or xs k 0) ≡ true → 0 < length (filter p xs))
        → 0 < length (cond b (x ∷ filter p xs) (filter p xs))
    by true i h t e rest = omega arith
    by false zero h t e rest = cc
    by false (suc i) h t e rest = let less : i < length xs = omega arith in rest i less e

range_at : (n i : ℕ) → i < n → get_or (range_with_len 0 n) i 0 ≡ i
range_at n i h = let same : 0 + i ≡ i = omega arith in get_or-range_with_len 0 n i 0 h ∙ same

-- # Rows with the numbers of their links

module _ (owns links numbers : List ℕ) (numbering : IsNumbering owns links numbers) where
  abbrev groups : List (List ℕ)
  groups = places_by_number numbers (length links)

  count : length groups ≡ length links
  count = length-map-range_with_len (λ n. places_of n numbers) 0 (length links)

  group_is : (g : ℕ) → g < length groups → get_or groups g [] ≡ places_of g numbers
  group_is g h = let same : 0 + g ≡ g = omega arith in get_or-map-range_with_len (λ n. places_of n numbers) 0 (length links) g g [] (omega (arith, h, count)) same

  range_below : All (λ i. i < length numbers) (range_with_len 0 (length numbers))
  range_below = All-from_get_or (λ i. i < length numbers) (range_with_len 0 (length numbers)) 0 (λ i h.
      let within : i < length numbers = omega (arith, h, length-range_with_len 0 (length numbers)) in
      subst (λ k. k < length numbers) (sym (range_at (length numbers) i within)) within)

  numbers_below : All (λ i. get_or numbers i 0 < length links) (range_with_len 0 (length numbers))
  numbers_below = All-from_get_or (λ i. get_or numbers i 0 < length links) (range_with_len 0 (length numbers)) 0 (λ i h.
      let within : i < length numbers = omega (arith, h, length-range_with_len 0 (length numbers)) in
      let same : get_or (range_with_len 0 (length numbers)) i 0 ≡ i = range_at (length numbers) i within in
      subst (λ k. get_or numbers k 0 < length links) (sym same) (numbering.below i 0 within))

  abbrev place : ℕ → ℕ → ℕ
  place g j = get_or (get_or groups g []) j 0

  placed : (P : ℕ → Type 0) (g j : ℕ) → g < length groups → j < length (get_or groups g []) → All P (places_of g numbers) → P (place g j)
  placed P g j h l all = subst (λ xs. P (get_or xs j 0)) (sym (group_is g h)) (all j 0 (subst (λ xs. j < length xs) (group_is g h) l))

  member_below : (g j : ℕ) → g < length groups → j < length (get_or groups g []) → place g j < length numbers
  member_below g j h l = placed (λ i. i < length numbers) g j h l (All-filter (λ i. nat_eq (get_or numbers i 0) g) (λ i. i < length numbers) (range_with_len 0 (length numbers)) range_below)

  member_number : (g j : ℕ) → g < length groups → j < length (get_or groups g []) → get_or numbers (place g j) 0 ≡ g
  member_number g j h l =
      eqb-true (get_or numbers (place g j) 0) g (placed (λ i. nat_eq (get_or numbers i 0) g ≡ true) g j h l (filter_passes (λ i. nat_eq (get_or numbers i 0) g) (range_with_len 0 (length numbers))))

  someone : (g : ℕ) → g < length groups → 0 < length (get_or groups g [])
  someone g h =
      let at = numbering.used g (omega (arith, h, count)) in
      let is : get_or numbers at.0 0 ≡ g = get_or_default numbers at.0 0 g at.1 ∙ at.2 in
      let here : get_or (range_with_len 0 (length numbers)) at.0 0 ≡ at.0 = range_at (length numbers) at.0 at.1 in
      subst (λ xs. 0 < length xs) (sym (group_is g h))
      (some_kept (λ i. nat_eq (get_or numbers i 0) g) (range_with_len 0 (length numbers)) at.0 (omega (arith, at.1, length-range_with_len 0 (length numbers)))
      (eq-eqb (get_or numbers (get_or (range_with_len 0 (length numbers)) at.0 0) 0) g (ap (λ k. get_or numbers k 0) here ∙ is)))

  -- the places of the numbers are a grouping of the rows
  pub numbered_grouping : IsGrouping owns links (places_by_number numbers (length links))
  numbered_grouping = record {
    size = count;
    distinct = numbering.distinct;
    spread = subst (λ n. IsPermutation (range_with_len 0 n) (concat groups)) numbering.size (places_permute (λ i. get_or numbers i 0) (length links) (range_with_len 0 (length numbers)) numbers_below);
    inhabited = someone;
    members = λ g j h l. omega (arith, member_below g j h l, numbering.size);
    same = λ g j h l. sym (numbering.named (place g j) (member_below g j h l)) ∙ ap (λ n. get_or links n 0) (member_number g j h l);
    few = numbering.few;
  }
