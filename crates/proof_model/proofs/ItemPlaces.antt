-- Where the items of some nodes stand among these items, in their order.
use Rattle.std.proofs.Common.{◌≡◌, ◌≢◌, ◌<◌, ◌≤◌, ◌+◌, ◌-◌, ◌*◌, ℕ, zero, suc, cond, nat_eq, nat_lt}
use Rattle.std.proofs.Common.{refl, sym, ap, ◌∙◌, inl, inr, arith}
use Rattle.std.proofs.lemmas.Bool.{cases_eq, cases_lt}
use Rattle.std.proofs.lemmas.Bool.Decides.{nat_tests}
use Rattle.tdp_model.specs.TreeProblem.{sum_from}
use Rattle.tdp_model.proofs.Sums.{same_sums}

-- ---- sums of numbers

abbrev pub sum : (ℕ → ℕ) → ℕ → ℕ → ℕ
sum f n q = sum_from ◌+◌ 0 f n q

pub sum_equal : (f g : ℕ → ℕ) (n q : ℕ) → ((i : ℕ) → q ≤ i → i < q + n → f i ≡ g i) → sum f n q ≡ sum g n q
sum_equal f g n q h = same_sums ◌+◌ 0 f g n q h

pub sum_two : (f g h : ℕ → ℕ) (n q : ℕ) → ((i : ℕ) → q ≤ i → i < q + n → h i ≡ f i + g i)
    → sum h n q ≡ sum f n q + sum g n q
unfolding sum_from
sum_two f g h zero q e = refl
sum_two f g h (suc n) q e =
    let rest = sum_two f g h n (suc q) (λ i a b. e i (omega (arith, a)) (omega (arith, b))) in
    omega (arith, e q (omega arith) (omega arith), rest)

pub sum_zero : (f : ℕ → ℕ) (n q : ℕ) → ((i : ℕ) → q ≤ i → i < q + n → f i ≡ 0) → sum f n q ≡ 0
unfolding sum_from
sum_zero f zero q e = refl
sum_zero f (suc n) q e =
    let rest = sum_zero f n (suc q) (λ i a b. e i (omega (arith, a)) (omega (arith, b))) in
    omega (arith, e q (omega arith) (omega arith), rest)

pub sum_ones : (f : ℕ → ℕ) (n q : ℕ) → ((i : ℕ) → q ≤ i → i < q + n → f i ≡ 1) → sum f n q ≡ n
unfolding sum_from
sum_ones f zero q e = refl
sum_ones f (suc n) q e =
    let rest = sum_ones f n (suc q) (λ i a b. e i (omega (arith, a)) (omega (arith, b))) in
    omega (arith, e q (omega arith) (omega arith), rest)

-- a sum that is not 0 has a term that is not
pub sum_some : (f : ℕ → ℕ) (n q : ℕ) → 0 < sum f n q → (u : ℕ) × (q ≤ u) × (u < q + n) × (0 < f u)
unfolding sum_from
sum_some f zero q h = absurd (omega (arith, h))
sum_some f (suc n) q h = elim (cases_lt 0 (f q)) [
  | inl here ↦ (q, omega arith, omega arith, here)
  | inr none ↦
      let r = sum_some f n (suc q) (omega (arith, h, none)) in
      (r.0, omega (arith, r.1), omega (arith, r.2), r.3)
]

-- a sum of which one term at most is not 0
pub sum_one : (f : ℕ → ℕ) (n q u : ℕ) → q ≤ u → u < q + n
    → ((i : ℕ) → q ≤ i → i < q + n → i ≢ u → f i ≡ 0) → sum f n q ≡ f u
unfolding sum_from
sum_one f zero q u a b none = absurd (omega (arith, a, b))
sum_one f (suc n) q u a b none = elim (cases_eq u q) [
  | inl e ↦
      let rest = sum_zero f n (suc q) (λ i l h. none i (omega (arith, l)) (omega (arith, h))
      (λ s. omega (arith, s, e, l))) in
      omega (arith, ap f e, rest)
  | inr other ↦
      let here = none q (omega arith) (omega arith) (λ s. other (sym s)) in
      let rest = sum_one f n (suc q) u (omega (arith, a, other)) (omega (arith, b))
      (λ i l h s. none i (omega (arith, l)) (omega (arith, h)) s) in
      omega (arith, here, rest)
]

-- ---- items

if-less : (a b : ℕ) → a < b → cond {A = ℕ} (nat_lt a b) 1 0 ≡ 1
if-less a b h = grind (arith, nat_tests)

if_more : (a b : ℕ) → b ≤ a → cond {A = ℕ} (nat_lt a b) 1 0 ≡ 0
if_more a b h = grind (arith, nat_tests)

if_same : (a b : ℕ) → a ≡ b → cond {A = ℕ} (nat_eq a b) 1 0 ≡ 1
if_same a b h = grind (arith, nat_tests)

if_other : (a b : ℕ) → a ≢ b → cond {A = ℕ} (nat_eq a b) 1 0 ≡ 0
if_other a b h = grind (arith, nat_tests)

times_one : (a b : ℕ) → b ≡ 1 → a * b ≡ a
times_one a b e = ap (λ z. a * z) e ∙ omega arith

times_none : (a b : ℕ) → b ≡ 0 → a * b ≡ 0
times_none a b e = ap (λ z. a * z) e ∙ omega arith

-- some of m nodes are chosen, and their items differ
module _ (m : ℕ) (chosen item : ℕ → ℕ) (most : ℕ) (once : (u : ℕ) → u < m → chosen u ≤ 1)
    (within : (u : ℕ) → u < m → item u < most)
    (apart : (u v : ℕ) → u < v → v < m → item u ≢ item v) where
  -- how many of the chosen items are less than x, and how many are x
  abbrev pub before : ℕ → ℕ
  before x = sum (λ u. chosen u * cond (nat_lt (item u) x) 1 0) m 0

  abbrev pub here : ℕ → ℕ
  here x = sum (λ u. chosen u * cond (nat_eq (item u) x) 1 0) m 0

  abbrev pub all : ℕ
  all = sum chosen m 0

  pub none_before : before 0 ≡ 0
  none_before = sum_zero (λ u. chosen u * cond (nat_lt (item u) 0) 1 0) m 0
      (λ u a b. times_none (chosen u) _ (if_more (item u) 0 (omega arith)))

  pub all_before : (x : ℕ) → most ≤ x → before x ≡ all
  all_before x h = sum_equal (λ u. chosen u * cond (nat_lt (item u) x) 1 0) chosen m 0
      (λ u a b. times_one (chosen u) _ (let w = within u (omega (arith, b)) in if-less (item u) x
      (omega (arith, w, h))))

  pub before_next : (x : ℕ) → before (suc x) ≡ before x + here x
  before_next x =
      sum_two (λ u. chosen u * cond (nat_lt (item u) x) 1 0) (λ u. chosen u * cond (nat_eq (item u) x) 1 0)
      (λ u. chosen u * cond (nat_lt (item u) (suc x)) 1 0) m 0 (λ u a b. each (chosen u) (item u))
    where
      each : (c i : ℕ) → c * cond (nat_lt i (suc x)) 1 0 ≡ c * cond (nat_lt i x) 1 0 + c * cond (nat_eq i x) 1 0
      each c i = elim (cases_lt i x) [
        | inl l ↦
            let p = times_one c _ (if-less i (suc x) (omega (arith, l))) in
            let q = times_one c _ (if-less i x l) in
            let r = times_none c _ (if_other i x (λ e. omega (arith, l, e))) in
            omega (arith, p, q, r)
        | inr g ↦ elim (cases_eq i x) [
          | inl e ↦
              let p = times_one c _ (if-less i (suc x) (omega (arith, e))) in
              let q = times_none c _ (if_more i x (omega (arith, e))) in
              let r = times_one c _ (if_same i x e) in
              omega (arith, p, q, r)
          | inr n ↦
              let p = times_none c _ (if_more i (suc x) (omega (arith, g, n))) in
              let q = times_none c _ (if_more i x g) in
              let r = times_none c _ (if_other i x n) in
              omega (arith, p, q, r)
        ]
      ]

  before_rises : (d x : ℕ) → before x ≤ before (d + x)
  before_rises zero x = let e : before (0 + x) ≡ before x = ap before (omega arith) in omega (arith, e)
  before_rises (suc d) x =
      let rest = before_rises d x in
      let next = before_next (d + x) in
      let e : before (suc d + x) ≡ before (suc (d + x)) = ap before (omega arith) in
      omega (arith, rest, next, e)

  pub here_node : (x u : ℕ) → u < m → item u ≡ x → here x ≡ chosen u
  here_node x u l e =
      sum_one (λ v. chosen v * cond (nat_eq (item v) x) 1 0) m 0 u (omega arith) (omega (arith, l))
      (λ i a b n. times_none (chosen i) _ (if_other (item i) x (λ s. differ i u (omega (arith, b)) l n (s ∙ sym e))))
      ∙ times_one (chosen u) _ (if_same (item u) x e)
    where
      differ : (i u : ℕ) → i < m → u < m → i ≢ u → item i ≢ item u
      differ i u a b n s = elim (cases_lt i u) [
        | inl l ↦ apart i u l b s
        | inr g ↦ apart u i (omega (arith, g, n)) a (sym s)
      ]

  pub here_some : (x : ℕ) → 0 < here x → (u : ℕ) × (u < m) × (0 < chosen u) × (item u ≡ x)
  here_some x h =
      let r = sum_some (λ u. chosen u * cond (nat_eq (item u) x) 1 0) m 0 h in
      elim (cases_eq (item r.0) x) [
        | inl e ↦
            let p = times_one (chosen r.0) _ (if_same (item r.0) x e) in
            (r.0, omega (arith, r.2), omega (arith, p, r.3), e)
        | inr n ↦
            let p = times_none (chosen r.0) _ (if_other (item r.0) x n) in
            absurd (omega (arith, p, r.3))
      ]

  -- the place of a chosen item is below the number of them all
  pub place_inside : (q : ℕ) → q < m → 0 < chosen q → before (item q) < all
  place_inside q l some =
      let next = before_next (item q) in
      let at = here_node (item q) q l refl in
      let w = within q l in
      let rise = before_rises (most - suc (item q)) (suc (item q)) in
      let e : before (most - suc (item q) + suc (item q)) ≡ all = ap before (omega (arith, w))
      ∙ all_before most (omega arith) in
      omega (arith, next, at, some, rise, e)

  -- two chosen items have different places
  pub place_tells : (q u : ℕ) → q < m → u < m → 0 < chosen q → 0 < chosen u → before (item q) ≡ before (item u) → q ≡ u
  place_tells q u lq lu sq su e = elim (cases_lt (item q) (item u)) [
    | inl less ↦ absurd (below q u lq sq less e)
    | inr more ↦ elim (cases_lt (item u) (item q)) [
      | inl less ↦ absurd (below u q lu su less (sym e))
      | inr same ↦ one q u lq lu (omega (arith, more, same))
    ]
  ]
    where
      below : (q u : ℕ) → q < m → 0 < chosen q → item q < item u → before (item q) ≡ before (item u) → ⊥
      below q u l some less e =
          let next = before_next (item q) in
          let at = here_node (item q) q l refl in
          let rise = before_rises (item u - suc (item q)) (suc (item q)) in
          let s : before (item u - suc (item q) + suc (item q)) ≡ before (item u) = ap before (omega (arith, less)) in
          omega (arith, next, at, some, rise, s, e)

      one : (q u : ℕ) → q < m → u < m → item q ≡ item u → q ≡ u
      one q u a b s = elim (cases_lt q u) [
        | inl l ↦ absurd (apart q u l b s)
        | inr g ↦ elim (cases_lt u q) [ inl l ↦ absurd (apart u q l a (sym s)) | inr h ↦ omega (arith, g, h) ]
      ]

  abbrev pub HasPlace : ℕ → Type 0
  HasPlace p = (q : ℕ) × (q < m) × (0 < chosen q) × (before (item q) ≡ p)

  -- each place below the number of them all is that of a chosen item
  pub place_each : (p : ℕ) → p < all → HasPlace p
  place_each p l =
      let e = all_before most (omega arith) in
      search most (omega (arith, e, l))
    where
      at : (x : ℕ) → before x ≤ p → p < before (suc x) → HasPlace p
      at x low high =
          let next = before_next x in
          let found = here_some x (omega (arith, next, low, high)) in
          let one = here_node x found.0 found.1 found.3 in
          let few = once found.0 found.1 in
          let same : before (item found.0) ≡ before x = ap before found.3 in
          (found.0, found.1, found.2, omega (arith, next, low, high, one, few, same))

      search : (x : ℕ) → p < before x → HasPlace p
      search zero h = let e = none_before in absurd (omega (arith, e, h))
      search (suc x) h = elim (cases_lt p (before x)) [
        | inl lower ↦ search x lower
        | inr here' ↦ at x here' h
      ]

  -- if each number below n is a chosen item, its place is the number itself
  pub place_same : (n : ℕ) → ((x : ℕ) → x < n → (u : ℕ) × (u < m) × (chosen u ≡ 1) × (item u ≡ x)) → (x : ℕ) → x ≤ n
      → before x ≡ x
  place_same n each zero l = none_before
  place_same n each (suc x) l =
      let rest = place_same n each x (omega (arith, l)) in
      let next = before_next x in
      let found = each x (omega (arith, l)) in
      let at = here_node x found.0 found.1 found.3 in
      omega (arith, rest, next, at, found.2)
