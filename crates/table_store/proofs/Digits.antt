-- Digits that are read from left to right.
use Rattle.std.proofs.Common.{◌≡◌, ◌≤◌, ◌<◌, ◌+◌, ◌*◌, ◌^◌, ℕ, zero, suc, List, [], ◌∷◌, take, length, get_or, subst, arith}
use Rattle.std.proofs.lemmas.Int.Digits.{digits_value-lt, digits_value_more}
use Rattle.std.proofs.lemmas.List.{length-take-le}
use Rattle.std.proofs.lemmas.Str.{digit_value_digit}
use Rattle.std.proofs.lemmas.Str.Parse.{digit_from_value}
use Rattle.std.proofs.Math.Nat.{pow-le-pow_right}
use Rattle.std.specs.Str.Parse.{AllDigits, digits_value}

digits_suc : (bytes : List ℕ) (i : ℕ) → i < length bytes → 48 ≤ get_or bytes i 0 → get_or bytes i 0 ≤ 57
    → AllDigits 10 (take i bytes) → AllDigits 10 (take (suc i) bytes)
digits_suc [] i inside low high digits = absurd (omega arith)
digits_suc (c ∷ bytes) zero inside low high digits = (omega (arith, digit_value_digit c (low, high)), tt)
digits_suc (c ∷ bytes) (suc i) inside low high digits = (digits.0, digits_suc bytes i (omega arith) low high digits.1)

-- one more digit
pub digits_more : (bytes : List ℕ) (i : ℕ) → i < length bytes → 48 ≤ get_or bytes i 0 → get_or bytes i 0 ≤ 57
    → AllDigits 10 (take i bytes) → AllDigits 10 (take (i + 1) bytes)
digits_more bytes i inside low high digits =
    let next : suc i ≡ i + 1 = omega arith in
    subst (λ (k : ℕ). AllDigits 10 (take k bytes)) next (digits_suc bytes i inside low high digits)

pub value_more : (bytes : List ℕ) (i : ℕ) → i < length bytes → 48 ≤ get_or bytes i 0 → get_or bytes i 0 ≤ 57
    → digits_value 10 (take (i + 1) bytes) + 48 ≡ digits_value 10 (take i bytes) * 10 + get_or bytes i 0
value_more bytes i inside low high =
    omega (arith, digits_value_more 10 bytes i inside, digit_value_digit (get_or bytes i 0) (low, high))

-- fewer than ten digits
pub digits_bound : (bytes : List ℕ) (i : ℕ) → i < length bytes → length bytes ≤ 10 → AllDigits 10 (take i bytes) → digits_value 10 (take i bytes) < 1000000000
digits_bound bytes i inside few digits =
    let below = digits_value-lt 10 (take i bytes) digits in
    let short : length (take i bytes) ≤ 9 = omega (arith, inside, few, length-take-le i bytes (omega arith)) in
    let most : 10 ^ length (take i bytes) ≤ 10 ^ 9 = pow-le-pow_right {n = 10} (omega arith) short in
    omega (arith, below, most)

-- each byte is a digit
pub digits_at : (bytes : List ℕ) (i : ℕ) → i < length bytes → AllDigits 10 bytes → (48 ≤ get_or bytes i 0) × (get_or bytes i 0 ≤ 57)
digits_at [] i inside digits = absurd (omega arith)
digits_at (c ∷ bytes) zero inside digits = digit_from_value c digits.0
digits_at (c ∷ bytes) (suc i) inside digits = digits_at bytes i (omega arith) digits.1
