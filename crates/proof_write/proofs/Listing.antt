-- The numbers of a list that are not 0, and their places.
use Rattle.std.proofs.lemmas.List.Elements.{filter-append}
use Rattle.std.proofs.Common.{◌≡◌, ◌≢◌, ◌<◌, ◌≤◌, ◌+◌, ◌⊎◌, Less, Equal, Ordering, ℕ, zero, suc, cond, nat_lt, Bool}
use Rattle.std.proofs.Common.{true, false, List, [], ◌∷◌, map, pos, length, get_or, refl, sym, ap, subst, ◌∙◌, inl}
use Rattle.std.proofs.Common.{inr, arith, take, ◌++◌, append-nil}
use Rattle.std.proofs.lemmas.List.{take_more}
use Rattle.std.specs.Cmp.Lexicographic.{slice_cmp}
use Rattle.std.specs.Ordering.{is_lt, nat_cmp, ordering_then}
use Rattle.std.proofs.lemmas.Bool.{cases_eq, cases_lt}
use Rattle.std.proofs.lemmas.Int.{ints}
use Rattle.std.proofs.lemmas.Bool.Decides.{nat_tests}
use Rattle.anyk_model.specs.Ranking.{IsBefore}
use Rattle.proof_model.proofs.ItemPlaces.{all, all_before, before, before_next, here, here_node, here_some, none_before}
use Rattle.proof_write.specs.Firsts.{listed}

-- 1 if the number is not 0
abbrev pub some : ℕ → ℕ
some x = cond (nat_lt 0 x) 1 0

some_is : (x : ℕ) → 0 < x → some x ≡ 1
some_is x h = grind (arith, nat_tests)

some_not : (x : ℕ) → x ≡ 0 → some x ≡ 0
some_not x h = grind (arith, nat_tests)

lists_some : (x : ℕ) (xs : List ℕ) → 0 < x → listed (x ∷ xs) ≡ x ∷ listed xs
lists_some x xs h = by (nat_lt 0 x) (grind (arith, nat_tests))
  where
    by : (b : Bool) → b ≡ true → cond b (x ∷ listed xs) (listed xs) ≡ x ∷ listed xs
    by b e = ap (λ z. cond z (x ∷ listed xs) (listed xs)) e

lists_none : (x : ℕ) (xs : List ℕ) → x ≡ 0 → listed (x ∷ xs) ≡ listed xs
lists_none x xs h = by (nat_lt 0 x) (grind (arith, nat_tests))
  where
    by : (b : Bool) → b ≡ false → cond b (x ∷ listed xs) (listed xs) ≡ listed xs
    by b e = ap (λ z. cond z (x ∷ listed xs) (listed xs)) e

-- how many of the first i numbers are not 0
abbrev counted : List ℕ → ℕ → ℕ
counted [] i = 0
counted (x ∷ xs) zero = 0
counted (x ∷ xs) (suc i) = some x + counted xs i

counted_next : (xs : List ℕ) (i : ℕ) → i < length xs → counted xs (suc i) ≡ counted xs i + some (get_or xs i 0)
counted_next [] i l = absurd (omega (arith, l))
counted_next (x ∷ []) zero l = omega arith
counted_next (x ∷ (y ∷ ys)) zero l = omega arith
counted_next (x ∷ xs) (suc i) l = let rest = counted_next xs i (omega (arith, l)) in omega (arith, rest)

counted_none : (xs : List ℕ) → counted xs 0 ≡ 0
counted_none [] = refl
counted_none (x ∷ xs) = refl

counted_all : (xs : List ℕ) → length (listed xs) ≡ counted xs (length xs)
counted_all [] = refl
counted_all (x ∷ xs) = elim (cases_lt 0 x) [
  | inl h ↦ let e = ap length (lists_some x xs h) in let s = some_is x h in let r = counted_all xs in omega
      (arith, e, s, r)
  | inr h ↦ let z : x ≡ 0 = omega (arith, h) in let e = ap length
      (lists_none x xs z) in let s = some_not x z in let r = counted_all xs in omega (arith, e, s, r)
]

-- a number that is not 0 is listed at the place that the count of those before it says
listed_at : (xs : List ℕ) (i : ℕ) → 0 < get_or xs i 0 → get_or (listed xs) (counted xs i) 0 ≡ get_or xs i 0
listed_at [] i h = absurd (omega (arith, h))
listed_at (x ∷ xs) zero h = ap (λ l. get_or l 0 0) (lists_some x xs h)
listed_at (x ∷ xs) (suc i) h = elim (cases_lt 0 x) [
  | inl p ↦
      ap (λ l. get_or l (some x + counted xs i) 0) (lists_some x xs p)
      ∙ ap (λ n. get_or (x ∷ listed xs) n 0)
      (let s = some_is x p in let e : some x + counted xs i ≡ suc (counted xs i) = omega (arith, s) in e)
      ∙ listed_at xs i h
  | inr p ↦
      let z : x ≡ 0 = omega (arith, p) in
      ap (λ l. get_or l (some x + counted xs i) 0) (lists_none x xs z)
      ∙ ap (λ n. get_or (listed xs) n 0)
      (let s = some_not x z in let e : some x + counted xs i ≡ counted xs i = omega (arith, s) in e)
      ∙ listed_at xs i h
]

-- ---- the numbers of the items of some nodes

module _ (m : ℕ) (chosen item : ℕ → ℕ) (most : ℕ) (once : (u : ℕ) → u < m → chosen u ≤ 1)
    (within : (u : ℕ) → u < m → item u < most) (apart : (u v : ℕ) → u < v → v < m → item u ≢ item v)
    (numbers : List ℕ) (count : length numbers ≡ most)
    (own : (u : ℕ) → u < m → 0 < chosen u → 0 < get_or numbers (item u) 0)
    (others : (i : ℕ) → ((u : ℕ) → u < m → 0 < chosen u → item u ≢ i) → get_or numbers i 0 ≡ 0) where
  pub here_counted : (x : ℕ) → here m chosen item most once within apart x ≡ some (get_or numbers x 0)
  here_counted x = elim (cases_lt 0 (here m chosen item most once within apart x)) [
    | inl h ↦
        let found = here_some m chosen item most once within apart x h in
        let big : 0 < get_or numbers x 0 = subst (λ i. 0 < get_or numbers i 0) found.3 (own found.0 found.1 found.2) in
        let s = some_is (get_or numbers x 0) big in
        omega (arith, here_node m chosen item most once within apart x found.0 found.1 found.3, once found.0 found.1, found.2, s)
    | inr h ↦
        let none = others x (λ u l c e. let one = here_node m chosen item most once within apart x u l e in omega
        (arith, h, one, c)) in
        omega (arith, h, some_not (get_or numbers x 0) none)
  ]

  counted_before : (x : ℕ) → x ≤ most → counted numbers x ≡ before m chosen item most once within apart x
  counted_before zero l = counted_none numbers ∙ sym (none_before m chosen item most once within apart)
  counted_before (suc x) l =
      let more = before_next m chosen item most once within apart x in
      omega (arith, counted_before x (omega (arith, l)), counted_next numbers x (omega (arith, l, count)), more, here_counted x)

  -- as many numbers are listed as nodes are chosen
  pub listed_count : length (listed numbers) ≡ all m chosen item most once within apart
  listed_count =
      counted_all numbers ∙ ap (counted numbers) count ∙ counted_before most (omega arith)
      ∙ all_before m chosen item most once within apart most (omega arith)

  -- the number of a node is listed at the place of its item
  pub listed_place : (q : ℕ) → q < m → 0 < chosen q
      → get_or (listed numbers) (before m chosen item most once within apart (item q)) 0 ≡ get_or numbers (item q) 0
  listed_place q l some' =
      ap (λ n. get_or (listed numbers) n 0) (sym (counted_before (item q) (omega (arith, within q l))))
      ∙ listed_at numbers (item q) (own q l some')

-- ---- order

-- lists that have 0 at the same places
abbrev pub AreAlike : List ℕ → List ℕ → Type 0
AreAlike [] [] = Unit {0}
AreAlike [] (y ∷ ys) = ⊥
AreAlike (x ∷ xs) [] = ⊥
AreAlike (x ∷ xs) (y ∷ ys) = (((0 < x) × (0 < y)) ⊎ ((x ≡ 0) × (y ≡ 0))) × AreAlike xs ys

pub alike_from : (xs ys : List ℕ) → length xs ≡ length ys
    → ((i : ℕ) → i < length xs → some (get_or xs i 0) ≡ some (get_or ys i 0)) → AreAlike xs ys
alike_from [] [] e h = tt
alike_from [] (y ∷ ys) e h = absurd (omega (arith, e))
alike_from (x ∷ xs) [] e h = absurd (omega (arith, e))
alike_from (x ∷ xs) (y ∷ ys) e h = (
  elim (cases_lt 0 x) [
    | inl p ↦ elim (cases_lt 0 y) [
      | inl q ↦ inl (p, q)
      | inr q ↦ let s = h 0 (omega arith) in let a = some_is x p in let z : y
          ≡ 0 = omega (arith, q) in let b = some_not y z in absurd (omega (arith, s, a, b))
    ]
    | inr p ↦ elim (cases_lt 0 y) [
      | inl q ↦ let s = h 0 (omega arith) in let b = some_is y q in let z : x
          ≡ 0 = omega (arith, p) in let a = some_not x z in absurd (omega (arith, s, a, b))
      | inr q ↦ inr (omega (arith, p), omega (arith, q))
    ]
  ],
  alike_from xs ys (omega (arith, e)) (λ i l. h (suc i) (omega (arith, l))),
)

-- if a number is not less than another in a sort's order, it is greater, or what follows decides
not_less : (x y : ℕ) (o : Ordering) → is_lt (ordering_then (nat_cmp y x) o) ≡ false
    → (x < y) ⊎ ((x ≡ y) × (is_lt o ≡ false))
not_less x y o h = elim (cases_lt y x) [
  | inl less ↦
      let c : nat_cmp y x ≡ Less = grind (arith, nat_tests) in
      let e : true ≡ false = ap (λ r. is_lt (ordering_then r o)) (sym c) ∙ h in
      absurd (cc)
  | inr more ↦ elim (cases_eq x y) [
    | inl same ↦
        let c : nat_cmp y x ≡ Equal = grind (arith, nat_tests) in
        inr (same, ap (λ r. is_lt (ordering_then r o)) (sym c) ∙ h)
    | inr other ↦ inl (omega (arith, more, other))
  ]
]

-- lists of numbers that differ, with 0 at the same places, are in the order of their numbers that are not 0
pub listed_before : (xs ys : List ℕ) → AreAlike xs ys → (xs ≡ ys → ⊥) → is_lt (slice_cmp nat_cmp ys xs) ≡ false
    → IsBefore (map pos (listed xs)) (map pos (listed ys))
listed_before [] [] a n h = absurd (n refl)
listed_before [] (y ∷ ys) a n h = absurd a
listed_before (x ∷ xs) [] a n h = absurd a
listed_before (x ∷ xs) (y ∷ ys) (inl both, a) n h =
    subst (λ l. IsBefore (map pos l) (map pos (listed (y ∷ ys)))) (sym (lists_some x xs both.0))
    (subst (λ l. IsBefore (map pos (x ∷ listed xs)) (map pos l)) (sym (lists_some y ys both.1))
    (elim (not_less x y (slice_cmp nat_cmp ys xs) h) [
      | inl less ↦ inl (grind (arith, ints))
      | inr same ↦ inr (
        ap pos same.0,
        listed_before xs ys a
            (λ e. n (ap (λ z. z ∷ xs) same.0 ∙ ap (λ z. y ∷ z) e)) same.1,
      )
    ]))
listed_before (x ∷ xs) (y ∷ ys) (inr none, a) n h =
    subst (λ l. IsBefore (map pos l) (map pos (listed (y ∷ ys)))) (sym (lists_none x xs none.0))
    (subst (λ l. IsBefore (map pos (listed xs)) (map pos l)) (sym (lists_none y ys none.1))
    (elim (not_less x y (slice_cmp nat_cmp ys xs) h) [
      | inl less ↦ let a = none.0 in let b = none.1 in absurd (omega (arith, a, b, less))
      | inr same ↦ listed_before xs ys a (λ e. n (ap (λ z. z ∷ xs) same.0 ∙ ap (λ z. y ∷ z) e)) same.1
    ]))

-- the next number is listed unless it is 0
pub listed_kept : (rows : List ℕ) (i : ℕ) → i < length rows → 0 < get_or rows i 0
    → listed (take (i + 1) rows) ≡ listed (take i rows) ++ (get_or rows i 0 ∷ [])
listed_kept rows i inside some =
    ap listed (take_more rows i 0 inside) ∙ filter-append _ (take i rows) (get_or rows i 0 ∷ [])
    ∙ ap (λ (t : List ℕ). listed (take i rows) ++ t) (lists_some (get_or rows i 0) [] some)

pub listed_skipped : (rows : List ℕ) (i : ℕ) → i < length rows → get_or rows i 0 ≡ 0
    → listed (take (i + 1) rows) ≡ listed (take i rows)
listed_skipped rows i inside none =
    ap listed (take_more rows i 0 inside) ∙ filter-append _ (take i rows) (get_or rows i 0 ∷ [])
    ∙ ap (λ (t : List ℕ). listed (take i rows) ++ t) (lists_none (get_or rows i 0) [] none) ∙ append-nil _
