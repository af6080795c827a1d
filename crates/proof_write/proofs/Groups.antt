-- The rows of a node are in groups, each row in one.
use Rattle.std.proofs.Common.{◌≡◌, ◌≢◌, ◌<◌, ◌≤◌, ◌+◌, ℕ, zero, suc, false, eqb, Contains, List, [], ◌∷◌, ◌++◌}
use Rattle.std.proofs.Common.{length, get_or, sym, ap, ◌∙◌, inl, inr, arith, length-append}
use Rattle.std.specs.List.{AllByRecursion, IsDistinct, concat, range_with_len}
use Rattle.std.specs.List.Sorted.{IsPermutation}
use Rattle.std.proofs.lemmas.Bool.{cases_eq, cases_lt, eq-eqb, ne_eqb}
use Rattle.std.proofs.lemmas.List.{get_or_append_left, get_or-append-add}
use Rattle.std.proofs.lemmas.List.Elements.{Contains-append_cases}
use Rattle.std.proofs.lemmas.List.FromFn.{length-range_with_len, get_or-range_with_len}
use Rattle.std.proofs.lemmas.List.Sorted.{Contains-permutation}
use Rattle.std.proofs.lemmas.Map.Keys.{IsDistinct-IsPermutation}
use Rattle.tdp_core.proofs.GroupMembers.{distinct_places}

-- ---- distinct numbers

pub distinct_from : (xs : List ℕ) → ((i j : ℕ) → i < j → j < length xs → get_or xs i 0 ≢ get_or xs j 0)
    → IsDistinct eqb xs
unfolding IsDistinct
distinct_from [] h = tt
distinct_from (x ∷ xs) h = (
  others x xs (λ j l. h 0 (suc j) (omega arith) (omega (arith, l))),
  distinct_from xs (λ i j less l. h (suc i) (suc j) (omega (arith, less)) (omega (arith, l))),
)
  where
    others : (x : ℕ) (xs : List ℕ) → ((j : ℕ) → j < length xs → x ≢ get_or xs j 0)
        → AllByRecursion (λ y. eqb x y ≡ false) xs
    others x [] h = tt
    others x (y ∷ ys) h = (ne_eqb x y (h 0 (omega arith)), others x ys (λ j l. h (suc j) (omega (arith, l))))

eqb_flips : (x y : ℕ) → eqb x y ≡ eqb y x
eqb_flips x y = elim (cases_eq x y) [
  | inl e ↦ eq-eqb x y e ∙ sym (eq-eqb y x (sym e))
  | inr n ↦ ne_eqb x y n ∙ sym (ne_eqb y x (λ e. n (sym e)))
]

-- the same in another order
pub distinct_moved : (xs ys : List ℕ) → IsPermutation xs ys
    → ((i j : ℕ) → i < j → j < length xs → get_or xs i 0 ≢ get_or xs j 0)
    → (i j : ℕ) → i < length ys → j < length ys → get_or ys i 0 ≡ get_or ys j 0 → i ≡ j
distinct_moved xs ys moved h = distinct_places ys
    (IsDistinct-IsPermutation eqb eqb_flips xs ys moved (distinct_from xs h))

-- ---- groups

-- where the members of a group begin among those of all groups
abbrev offset : List (List ℕ) → ℕ → ℕ
offset [] g = 0
offset (x ∷ gs) zero = 0
offset (x ∷ gs) (suc g) = length x + offset gs g

within : (gs : List (List ℕ)) (g i : ℕ) → i < length (get_or gs g []) → offset gs g + i < length (concat gs)
within [] g i l = absurd (omega (arith, l))
within (x ∷ gs) zero i l = let n = length-append x (concat gs) in omega (arith, l, n)
within (x ∷ gs) (suc g) i l = let n = length-append x (concat gs) in let r = within gs g i l in omega (arith, n, r)

member_at : (gs : List (List ℕ)) (g i : ℕ) → i < length (get_or gs g [])
    → get_or (concat gs) (offset gs g + i) 0 ≡ get_or (get_or gs g []) i 0
member_at [] g i l = absurd (omega (arith, l))
member_at (x ∷ gs) zero i l =
    let place : 0 + i ≡ i = omega arith in
    ap (λ p. get_or (x ++ concat gs) p 0) place ∙ get_or_append_left x (concat gs) 0 i l
member_at (x ∷ gs) (suc g) i l =
    let place : length x + offset gs g + i ≡ length x + (offset gs g + i) = omega arith in
    ap (λ p. get_or (x ++ concat gs) p 0) place ∙ get_or-append-add x (concat gs) (offset gs g + i) 0
    ∙ member_at gs g i l

rises : (gs : List (List ℕ)) (g h : ℕ) → g < h → offset gs g + length (get_or gs g []) ≤ offset gs h
rises [] g h l = omega arith
rises (x ∷ gs) zero zero l = absurd (omega (arith, l))
rises (x ∷ gs) zero (suc h) l = omega arith
rises (x ∷ gs) (suc g) zero l = absurd (omega (arith, l))
rises (x ∷ gs) (suc g) (suc h) l = let r = rises gs g h (omega (arith, l)) in omega (arith, r)

in_concat : (gs : List (List ℕ)) (j : ℕ) → Contains (concat gs) j
    → (g : ℕ) × (g < length gs) × Contains (get_or gs g []) j
in_concat [] j c = let l = c.1 in absurd (omega (arith, l))
in_concat (x ∷ gs) j c = elim (Contains-append_cases x (concat gs) j c) [
  | inl p ↦ (0, omega arith, p)
  | inr p ↦ let r = in_concat gs j p in let l = r.1 in (suc r.0, omega (arith, l), r.2)
]

module _ (n : ℕ) (gs : List (List ℕ)) (grouped : IsPermutation (range_with_len 0 n) (concat gs)) where
  -- each row is in a group
  pub group_of : (r : ℕ) → r < n → (g : ℕ) × (g < length gs) × Contains (get_or gs g []) r
  group_of r l =
      let same : 0 + r ≡ r = omega arith in
      in_concat gs r (Contains-permutation (range_with_len 0 n) (concat gs) r grouped
      (r, omega (arith, length-range_with_len 0 n, l), get_or-range_with_len 0 n r r l ∙ same))

  range_apart : (i j : ℕ) → i < j → j < length (range_with_len 0 n)
      → get_or (range_with_len 0 n) i 0 ≢ get_or (range_with_len 0 n) j 0
  range_apart i j less l e =
      let size = length-range_with_len 0 n in
      let b = get_or-range_with_len 0 n j 0 (omega (arith, l, size)) in
      omega (arith, get_or-range_with_len 0 n i 0 (omega (arith, less, l, size)), b, e, less)

  -- and in no other one
  pub one_group : (g h i j : ℕ) → i < length (get_or gs g []) → j < length (get_or gs h [])
      → get_or (get_or gs g []) i 0 ≡ get_or (get_or gs h []) j 0 → g ≡ h
  one_group g h i j li lj e =
      let same : offset gs g + i ≡ offset gs h + j =
      distinct_moved (range_with_len 0 n) (concat gs) grouped range_apart (offset gs g + i) (offset gs h + j)
      (within gs g i li) (within gs h j lj)
      (member_at gs g i li ∙ e ∙ sym (member_at gs h j lj)) in
      elim (cases_lt g h) [
        | inl less ↦ let r = rises gs g h less in absurd (omega (arith, r, same, li))
        | inr more ↦ elim (cases_lt h g) [
          | inl less ↦ let r = rises gs h g less in absurd (omega (arith, r, same, lj))
          | inr equal ↦ omega (arith, more, equal)
        ]
      ]
