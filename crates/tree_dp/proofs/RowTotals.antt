-- Sums over the last nodes.
use Rattle.std.proofs.Common.{◌≡◌, ℕ, zero, suc, ◌+◌, ◌-◌, ◌*◌, ◌<◌, ◌≤◌, ap, ◌∙◌, arith}
use Rattle.tdp_model.specs.TreeProblem.{sum_from}
use Rattle.tdp_model.proofs.Ranges.{times_small}

-- the sum over the nodes from v on, of m nodes
abbrev pub total_from : (ℕ → ℕ) → ℕ → ℕ → ℕ
total_from f m v = sum_from ◌+◌ 0 f (m - v) v

pub total_from_before : (f : ℕ → ℕ) (m v : ℕ) → 0 < v → v ≤ m → total_from f m (v - 1) ≡ f (v - 1) + total_from f m v
unfolding sum_from
total_from_before f m v some l =
    let more : m - (v - 1) ≡ suc (m - v) = omega arith in
    let back : suc (v - 1) ≡ v = omega arith in
    ap (λ n. sum_from ◌+◌ 0 f n (v - 1)) more ∙ ap (λ q. f (v - 1) + sum_from ◌+◌ 0 f (m - v) q) back

sum_rest : (f : ℕ → ℕ) (n k q : ℕ) → sum_from ◌+◌ 0 f n (q + k) ≤ sum_from ◌+◌ 0 f (n + k) q
unfolding sum_from
sum_rest f n zero q =
    let same : q + 0 ≡ q = omega arith in
    let all : n + 0 ≡ n = omega arith in
    omega (arith, ap (sum_from ◌+◌ 0 f n) same, ap (λ k. sum_from ◌+◌ 0 f k q) all)
sum_rest f n (suc k) q =
    let place : q + suc k ≡ suc q + k = omega arith in
    let more : n + suc k ≡ suc (n + k) = omega arith in
    omega (arith, ap (sum_from ◌+◌ 0 f n) place, ap (λ j. sum_from ◌+◌ 0 f j q) more, sum_rest f n k (suc q))

pub total_from_most : (f : ℕ → ℕ) (m v : ℕ) → v ≤ m → total_from f m v ≤ sum_from ◌+◌ 0 f m 0
total_from_most f m v l =
    let place : 0 + v ≡ v = omega arith in
    let whole : (m - v) + v ≡ m = omega arith in
    omega (arith, sum_rest f (m - v) v 0, ap (sum_from ◌+◌ 0 f (m - v)) place, ap (λ n. sum_from ◌+◌ 0 f n 0) whole)

-- the steps for one node more, where each row takes as many
pub row_steps : (f : ℕ → ℕ) (m v here long count old before after : ℕ) → 0 < v → v ≤ m → here ≡ f (v - 1) → long ≡ count → before ≤ old + total_from f m v * (count + 2) → after ≤ before + here * (long + 2)
    → after ≤ old + total_from f m (v - 1) * (count + 2)
row_steps f m v here long count old before after some inside same alike counted cost =
    let more = ap (λ n. n * (count + 2)) (total_from_before f m v some inside) in
    omega (arith, counted, cost, more, ap (λ n. n * (count + 2)) same, ap (λ n. here * (n + 2)) alike)

pub row_steps_most : (f : ℕ → ℕ) (m v x old after : ℕ) → v ≤ m → after ≤ old + total_from f m v * x → after ≤ old + sum_from ◌+◌ 0 f m 0 * x
row_steps_most f m v x old after inside cost = omega (arith, cost, times_small _ _ x (total_from_most f m v inside))
