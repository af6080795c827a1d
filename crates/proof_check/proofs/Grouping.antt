-- Rows by the bounds of their groups.
use Rattle.std.proofs.Common.{◌≡◌, ℕ, zero, suc, ◌+◌, ◌<◌, Bool, true, false, cond, nat_eq, Option, None, Some}
use Rattle.std.proofs.Common.{unwrap_or, List, [], ◌∷◌, length, get_or, slice_index, refl, sym, ap, subst, ◌∙◌, arith}
use Rattle.std.proofs.Common.{eqb-true, eq-eqb}
use Rattle.std.specs.List.{filter, range_with_len}
use Rattle.std.proofs.lemmas.Bool.{false≢true}
use Rattle.std.proofs.lemmas.List.{get_or_default}
use Rattle.std.proofs.lemmas.List.FromFn.{get_or-map-range_with_len, get_or-range_with_len, length-range_with_len}
use Rattle.tdp_core.specs.RowGroups.{places_by_number, places_of}
use Rattle.tdp_core.proofs.RowPlaces.{groups_long}
use Rattle.proof_check.specs.Levels.{AreGroups, list_at}

module _ (p : ℕ → Bool) where
  -- an element of a filtered list passes the test
  pub filtered_from : (xs : List ℕ) (m : ℕ) → m < length (filter p xs)
      → (k : ℕ) × (k < length xs) × (get_or (filter p xs) m 0 ≡ get_or xs k 0) × (p (get_or xs k 0) ≡ true)
  filtered_from [] m l = absurd (omega (arith, l))
  filtered_from (x ∷ xs) m l = by (p x) refl m l (filtered_from xs)
    where
      From : List ℕ → List ℕ → ℕ → Type 0
      From ys zs m = (k : ℕ) × (k < length zs) × (get_or ys m 0 ≡ get_or zs k 0) × (p (get_or zs k 0) ≡ true)

      by : (b : Bool) → p x ≡ b → (m : ℕ) → m < length (cond b (x ∷ filter p xs) (filter p xs))
          → ((m : ℕ) → m < length (filter p xs)
          → (k : ℕ) × (k < length xs) × (get_or (filter p xs) m 0 ≡ get_or xs k 0) × (p (get_or xs k 0) ≡ true))
          → (k : ℕ) × (k < suc (length xs)) × (get_or (cond b (x ∷ filter p xs) (filter p xs)) m 0 ≡ get_or (x ∷ xs) k 0)
          × (p (get_or (x ∷ xs) k 0) ≡ true)
      by true e zero l later = (0, omega arith, refl, e)
      by true e (suc m) l later =
          let r = later m (omega (arith, l)) in (suc r.0, let h = r.1 in omega (arith, h), r.2, r.3)
      by false e m l later = let r = later m l in (suc r.0, let h = r.1 in omega (arith, h), r.2, r.3)

  -- an element that passes is there
  pub filtered_to : (xs : List ℕ) (k : ℕ) → k < length xs → p (get_or xs k 0) ≡ true
      → (m : ℕ) × (m < length (filter p xs)) × (get_or (filter p xs) m 0 ≡ get_or xs k 0)
  filtered_to [] k l e = absurd (omega (arith, l))
  filtered_to (x ∷ xs) zero l e = by (p x) e
    where
      by : (b : Bool) → b ≡ true → (m : ℕ) × (m < length (cond b (x ∷ filter p xs) (filter p xs)))
          × (get_or (cond b (x ∷ filter p xs) (filter p xs)) m 0 ≡ x)
      by true e = (0, omega arith, refl)
      by false e = absurd (false≢true e)
  filtered_to (x ∷ xs) (suc k) l e = by (p x) (filtered_to xs k (omega (arith, l)) e)
    where
      by : (b : Bool) → (m : ℕ) × (m < length (filter p xs)) × (get_or (filter p xs) m 0 ≡ get_or xs k 0)
          → (m : ℕ) × (m < length (cond b (x ∷ filter p xs) (filter p xs)))
          × (get_or (cond b (x ∷ filter p xs) (filter p xs)) m 0 ≡ get_or xs k 0)
      by true r = (suc r.0, let h = r.1 in omega (arith, h), r.2)
      by false r = r

module _ (own : List (Option ℕ)) (count : ℕ) (numbers : List ℕ) (size : length numbers ≡ length own)
    (each : (k : ℕ) → k < length own → get_or numbers k 0 ≡ unwrap_or (get_or own k None) count) where
  -- every row has a number up to the count
  pub numbers_within : ((i b : ℕ) → i < length own → get_or own i None ≡ Some b → b < count) → (k d : ℕ)
      → k < length numbers → get_or numbers k d < count + 1
  numbers_within within k d l =
      let h : k < length own = omega (arith, size, l) in
      subst (λ n. n < count + 1) (sym (same d)) (by (get_or own k None) refl h)
    where
      same : (d : ℕ) → get_or numbers k d ≡ unwrap_or (get_or own k None) count
      same d = get_or_default numbers k d 0 l ∙ each k (omega (arith, size, l))

      by : (o : Option ℕ) → get_or own k None ≡ o → k < length own → unwrap_or (get_or own k None) count < count + 1
      by None e h = subst (λ z. unwrap_or z count < count + 1) (sym e) (omega arith)
      by (Some b) e h =
          let less = within k b h e in subst (λ z. unwrap_or z count < count + 1) (sym e) (omega (arith, less))

  number_from : (i g : ℕ) → i < length own → g < count → get_or numbers i 0 ≡ g → get_or own i None ≡ Some g
  number_from i g l h e = by (get_or own i None) refl (sym (each i l) ∙ e)
    where
      by : (o : Option ℕ) → get_or own i None ≡ o → unwrap_or (get_or own i None) count ≡ g → get_or own i None ≡ Some g
      by None x y =
          let z : count ≡ g = sym (ap (λ o. unwrap_or o count) x) ∙ y in absurd (omega (arith, z, h))
      by (Some b) x y = x ∙ ap Some (sym (ap (λ o. unwrap_or o count) x) ∙ y)

  pub groups_are : AreGroups own count (places_by_number numbers (count + 1))
  groups_are = record {
    count = groups_long numbers (count + 1);
    rows = λ g m h l.
        let is = group g h in
        let from = filtered_from (λ i. nat_eq (slice_index numbers i) g) (range_with_len 0 (length numbers)) m
        (subst (λ xs. m < length xs) is l) in
        let inside : from.0 < length numbers = let a = from.1 in omega (arith, a, length-range_with_len 0 (length numbers)) in
        let none : 0 + from.0 ≡ from.0 = omega arith in
        let at : get_or (range_with_len 0 (length numbers)) from.0 0 ≡ from.0 =
        get_or-range_with_len 0 (length numbers) from.0 0 inside ∙ none in
        let row : slice_index (list_at (places_by_number numbers (count + 1)) g) m ≡ from.0 =
        ap (λ xs. get_or xs m 0) is ∙ from.2 ∙ at in
        let number : get_or numbers from.0 0 ≡ g =
        eqb-true (get_or numbers from.0 0) g (ap (λ z. nat_eq (get_or numbers z 0) g) (sym at) ∙ from.3) in
        let l' : from.0 < length own = omega (arith, inside, size) in
        subst (λ i. (i < length own) × (get_or own i None ≡ Some g)) (sym row) (l', number_from from.0 g l' h number);
    every = λ g i h l e.
        let is = group g h in
        let inside : i < length numbers = omega (arith, l, size) in
        let none : 0 + i ≡ i = omega arith in
        let at : get_or (range_with_len 0 (length numbers)) i 0 ≡ i =
        get_or-range_with_len 0 (length numbers) i 0 inside ∙ none in
        let number : get_or numbers i 0 ≡ g = each i l ∙ ap (λ o. unwrap_or o count) e in
        let to = filtered_to (λ i. nat_eq (slice_index numbers i) g) (range_with_len 0 (length numbers)) i
        (omega (arith, inside, length-range_with_len 0 (length numbers)))
        (ap (λ z. nat_eq (get_or numbers z 0) g) at ∙ eq-eqb (get_or numbers i 0) g number) in (
          to.0,
          subst (λ xs. to.0 < length xs) (sym is) to.1,
          ap (λ xs. get_or xs to.0 0) is ∙ to.2 ∙ at,
        );
  }
    where
      group : (g : ℕ) → g < count → list_at (places_by_number numbers (count + 1)) g ≡ places_of g numbers
      group g h = get_or-map-range_with_len (λ n. places_of n numbers) 0 (count + 1) g g [] (omega (arith, h)) (omega arith)
