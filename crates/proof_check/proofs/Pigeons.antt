-- Different numbers below a bound are no more than the bound.
use Rattle.std.proofs.Common.{◌≡◌, ◌≢◌, ◌⊎◌, ℕ, zero, suc, ◌<◌, ◌≤◌, cond, nat_lt, sym, ap, ◌∙◌, inl, inr, arith}
use Rattle.std.proofs.lemmas.Bool.{cases_eq, cases_lt}
use Rattle.std.proofs.lemmas.Bool.Decides.{nat_tests}

-- whether one of the first k values is x
find : (k x : ℕ) (f : ℕ → ℕ) → ((i : ℕ) × (i < k) × (f i ≡ x)) ⊎ ((i : ℕ) → i < k → f i ≢ x)
find zero x f = inr (λ i l. absurd (omega (arith, l)))
find (suc k) x f = elim (cases_eq (f k) x) [
  | inl e ↦ inl (k, omega arith, e)
  | inr e ↦ elim (find k x f) [
    | inl h ↦ let l = h.1 in inl (h.0, omega (arith, l), h.2)
    | inr h ↦ inr (λ i l. elim (cases_eq i k) [
      | inl s ↦ λ z. e (ap f (sym s) ∙ z)
      | inr n ↦ h i (omega (arith, l, n))
    ])
  ]
]

-- the numbers without i
skip : ℕ → ℕ → ℕ
skip i j = cond (nat_lt j i) j (suc j)

skip_low : (i j : ℕ) → j < i → skip i j ≡ j
unfolding skip
skip_low i j l = grind (arith, nat_tests)

skip_high : (i j : ℕ) → i ≤ j → skip i j ≡ suc j
unfolding skip
skip_high i j l = grind (arith, nat_tests)

skip_other : (i j : ℕ) → skip i j ≢ i
skip_other i j = elim (cases_lt j i) [
  | inl l ↦ λ e. let s = skip_low i j l in omega (arith, e, s, l)
  | inr l ↦ λ e. let s = skip_high i j l in omega (arith, e, s, l)
]

skip_within : (i j k : ℕ) → j < k → skip i j < suc k
skip_within i j k h = elim (cases_lt j i) [
  | inl l ↦ let s = skip_low i j l in omega (arith, s, h)
  | inr l ↦ let s = skip_high i j l in omega (arith, s, h)
]

skip_apart : (i a b : ℕ) → a ≢ b → skip i a ≢ skip i b
skip_apart i a b n = elim (cases_lt a i) [
  | inl l ↦ elim (cases_lt b i) [
    | inl k ↦ λ e. let s = skip_low i a l in let u = skip_low i b k in omega (arith, e, s, u, n)
    | inr k ↦ λ e. let s = skip_low i a l in let u = skip_high i b k in omega (arith, e, s, u, l, k)
  ]
  | inr l ↦ elim (cases_lt b i) [
    | inl k ↦ λ e. let s = skip_high i a l in let u = skip_low i b k in omega (arith, e, s, u, l, k)
    | inr k ↦ λ e. let s = skip_high i a l in let u = skip_high i b k in omega (arith, e, s, u, n)
  ]
]

pub pigeons : (n k : ℕ) (f : ℕ → ℕ) → ((i : ℕ) → i < k → f i < n) → ((i j : ℕ) → i < k → j < k → i ≢ j → f i ≢ f j) → k ≤ n
pigeons zero zero f low apart = omega arith
pigeons zero (suc k) f low apart = absurd (let l = low 0 (omega arith) in omega (arith, l))
pigeons (suc n) zero f low apart = omega arith
pigeons (suc n) (suc k) f low apart = elim (find (suc k) n f) [
  | inl h ↦
      let at : ℕ = h.0 in
      let less = pigeons n k (λ j. f (skip at j))
      (λ j l.
      let differ : f (skip at j) ≢ n = λ e. (apart (skip at j) at (skip_within at j k l) h.1 (skip_other at j)) (e ∙ sym h.2) in
      omega (arith, low (skip at j) (skip_within at j k l), differ))
      (λ a b l m e. apart (skip at a) (skip at b) (skip_within at a k l) (skip_within at b k m) (skip_apart at a b e)) in
      omega (arith, less)
  | inr h ↦
      let less = pigeons n (suc k) f (λ i l. let a = low i l in let b = h i l in omega (arith, a, b)) apart in
      omega (arith, less)
]
