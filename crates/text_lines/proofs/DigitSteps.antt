-- One digit of a number, from the last to the first.
use Rattle.std.proofs.Common.{◌≡◌, ◌≤◌, ◌<◌, ◌-◌, ◌/◌, ◌%◌, ◌^◌, ◌*◌, ◌==◌, ℕ, suc, zero, List, ◌∷◌, true, false, cond, refl, drop, length, arith, set}
use Rattle.std.specs.Fmt.{digit_glyph, digits_onto}
use Rattle.std.proofs.lemmas.Grind.{common_steps}
use Rattle.std.proofs.lemmas.Bool.{eqb-true, eqb-false}

pub last_digit : (k n : ℕ) (acc goal : List ℕ) → digits_onto (suc k) 10 false n acc ≡ goal → n / 10 ≡ 0 → digit_glyph false (n % 10) ∷ acc ≡ goal
last_digit k n acc goal e zero_left =
    elim (n / 10 == 0) as (λ b. (n / 10 == 0) ≡ b → cond b (digit_glyph false (n % 10) ∷ acc) (digits_onto k 10 false (n / 10) (digit_glyph false (n % 10) ∷ acc)) ≡ goal → digit_glyph false (n % 10) ∷ acc ≡ goal) [
      | true ↦ λ _ h. h
      | false ↦ λ test _. absurd (eqb-false (n / 10) 0 test zero_left)
    ] refl e

pub more_digits : (k n : ℕ) (acc goal : List ℕ) → digits_onto (suc k) 10 false n acc ≡ goal → (n / 10 ≡ 0 → ⊥) → digits_onto k 10 false (n / 10) (digit_glyph false (n % 10) ∷ acc) ≡ goal
more_digits k n acc goal e more =
    elim (n / 10 == 0) as (λ b. (n / 10 == 0) ≡ b → cond b (digit_glyph false (n % 10) ∷ acc) (digits_onto k 10 false (n / 10) (digit_glyph false (n % 10) ∷ acc)) ≡ goal → digits_onto k 10 false (n / 10) (digit_glyph false (n % 10) ∷ acc) ≡ goal) [
      | true ↦ λ test _. absurd (more (eqb-true (n / 10) 0 test))
      | false ↦ λ _ h. h
    ] refl e

-- the digit stands before those behind it
pub digit_put : (digits : List ℕ) (at d : ℕ) → 0 < at → at ≤ length digits → drop (at - 1) (set digits (at - 1) d) ≡ d ∷ drop at digits
digit_put digits at d h k = grind (arith, common_steps)

grown : (at : ℕ) → 0 < at → 10 ^ at ≡ 10 * 10 ^ (at - 1)
grown zero h = absurd (omega arith)
grown (suc at) h = grind (arith, common_steps)

pub smaller : (n at : ℕ) → 0 < at → n < 10 ^ at → n / 10 < 10 ^ (at - 1)
smaller n at h k =
    let same : 10 ^ at ≡ 10 * 10 ^ (at - 1) = grown at h in
    omega arith
