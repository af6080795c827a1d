-- The rows that stay are in ascending order.
use Rattle.std.proofs.Common.{◌≡◌, ℕ, zero, suc, ◌+◌, ◌-◌, ◌<◌, inl, inr, List, length, get_or, ap, arith}
use Rattle.std.specs.List.Sorted.{IsStrictlyIncreasing}
use Rattle.std.proofs.lemmas.Bool.{cases_eq, cases_lt}
use Rattle.std.specs.List.{range_with_len}
use Rattle.std.proofs.lemmas.List.FromFn.{length-range_with_len, get_or-range_with_len}
use Rattle.std.proofs.lemmas.List.Kept.{IsStrictlyIncreasing-filter}
use Rattle.tdp_core.specs.RawView.{RawView, raw_len}
use Rattle.semi_join.specs.Reduction.{kept_rows, has_partners}

range_rises : (n : ℕ) → IsStrictlyIncreasing (range_with_len 0 n)
range_rises n = λ k h.
    let within : k + 1 < n = omega (arith, h, length-range_with_len 0 n) in
    omega (arith, get_or-range_with_len 0 n k 0 (omega (arith, within)), get_or-range_with_len 0 n (k + 1) 0 within)

pub kept_ascends : {R : Type 0} (raw : RawView R) (v : ℕ) (later : List (List ℕ)) → IsStrictlyIncreasing (kept_rows raw v later)
kept_ascends raw v later = IsStrictlyIncreasing-filter (has_partners raw v later) (range_with_len 0 (raw_len raw v)) (range_rises (raw_len raw v))

rises : (xs : List ℕ) → IsStrictlyIncreasing xs → (i k : ℕ) → i + suc k < length xs → get_or xs i 0 < get_or xs (i + suc k) 0
rises xs up i zero h = let next : i + 1 < length xs = omega arith in up i next
rises xs up i (suc k) h =
    let before = rises xs up i k (omega arith) in
    let next = up (i + suc k) (omega arith) in
    let same : (i + suc k) + 1 ≡ i + suc (suc k) = omega arith in
    omega (arith, before, next, ap (λ j. get_or xs j 0) same)

-- so no row stands there twice
pub places_apart : (xs : List ℕ) → IsStrictlyIncreasing xs → (i j : ℕ) → i < length xs → j < length xs → get_or xs i 0 ≡ get_or xs j 0 → i ≡ j
places_apart xs up i j hi hj e = elim (cases_eq i j) [
  | inl same ↦ same
  | inr not ↦ elim (cases_lt i j) [
    | inl l ↦
        let there : i + suc (j - i - 1) ≡ j = omega arith in
        absurd (omega (arith, e, ap (λ k. get_or xs k 0) there, rises xs up i (j - i - 1) (omega (arith, hj, there))))
    | inr g ↦
        let less : j < i = omega (arith, g, not) in
        let there : j + suc (i - j - 1) ≡ i = omega arith in
        absurd (omega (arith, e, ap (λ k. get_or xs k 0) there, rises xs up j (i - j - 1) (omega (arith, hi, there))))
  ]
]
