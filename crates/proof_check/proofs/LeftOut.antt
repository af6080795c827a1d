-- Sums of numbers over nodes, with one node more and with terms left out.
use Rattle.std.proofs.Common.{◌≡◌, ℕ, zero, suc, ◌+◌, ◌*◌, ◌<◌, ◌≤◌, Bool, true, false, cond, ap, ◌∙◌, inl, inr, arith}
use Rattle.std.proofs.lemmas.Bool.{cases_eq}
use Rattle.tdp_model.specs.TreeProblem.{sum_from}

-- one node more
last_term : (f : ℕ → ℕ) (n q r : ℕ) → r ≡ q + n → sum_from ◌+◌ 0 f (suc n) q ≡ sum_from ◌+◌ 0 f n q + f r
unfolding sum_from
last_term f zero q r e = let s : q ≡ r = omega arith in omega (arith, ap f s)
last_term f (suc n) q r e = omega (arith, last_term f n (suc q) r (omega arith))

pub sum_more : (f : ℕ → ℕ) (n : ℕ) → sum_from ◌+◌ 0 f (n + 1) 0 ≡ sum_from ◌+◌ 0 f n 0 + f n
sum_more f n = let s : n + 1 ≡ suc n = omega arith in ap (λ k. sum_from ◌+◌ 0 f k 0) s ∙ last_term f n 0 n (omega arith)

masked : (b : ℕ) (t : Bool) → b * cond {A = ℕ} t 1 0 ≤ b
masked b true = omega arith
masked b false = omega arith

masked_sum : (f : ℕ → ℕ) (t : ℕ → Bool) (n q : ℕ)
    → sum_from ◌+◌ 0 (λ u. f u * cond (t u) 1 0) n q ≤ sum_from ◌+◌ 0 f n q
unfolding sum_from
masked_sum f t zero q = omega arith
masked_sum f t (suc n) q = omega (arith, masked (f q) (t q), masked_sum f t n (suc q))

hidden : (b : ℕ) (t : Bool) → t ≡ false → b * cond {A = ℕ} t 1 0 ≡ 0
hidden b true e = absurd (cc)
hidden b false e = omega arith

-- a sum of which a term is left out is less
pub sum_less : (f : ℕ → ℕ) (t : ℕ → Bool) (n q p : ℕ) → q ≤ p → p < q + n → 0 < f p → t p ≡ false
    → sum_from ◌+◌ 0 (λ u. f u * cond (t u) 1 0) n q < sum_from ◌+◌ 0 f n q
unfolding sum_from
sum_less f t zero q p l h s e = absurd (omega arith)
sum_less f t (suc n) q p l h s e = elim (cases_eq q p) [
  | inl x ↦
      omega (arith, hidden (f q) (t q) (ap t x ∙ e), ap f x, masked_sum f t n (suc q))
  | inr x ↦
      omega (arith, masked (f q) (t q), sum_less f t n (suc q) p (omega arith) (omega arith) s e)
]
