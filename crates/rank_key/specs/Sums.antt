-- Numbers of 128 bits with a sign, in two halves.
use Rattle.std.specs.Prelude.{◌≡◌, ℕ, ◌+◌, ◌*◌, ◌/◌, ◌%◌, ◌^◌, ◌<◌, ℤ}
use Rattle.std.specs.Int.{w128, cast_signed, cast_unsigned}
use Rattle.std.proofs.Common.{ap, ◌∙◌, arith}
use Rattle.std.proofs.lemmas.Int.{of_z-to_z}
use Rattle.std.proofs.lemmas.Nat.{shr_split, shr_high}
use Rattle.rank_key.specs.declared.sum.Sum.TheInside.{Inside}

-- the number whose binary form these halves are
abbrev pub sum_view : Inside → ℤ
sum_view s = cast_signed w128 (s.high * 2 ^ 64 + s.low)

-- the halves of the binary form of a number
abbrev pub halves_of : ℤ → Inside
halves_of z = record { high = cast_unsigned w128 z / 2 ^ 64; low = cast_unsigned w128 z % 2 ^ 64 }

high_of : (high low : ℕ) → low < 2 ^ 64 → (high * 2 ^ 64 + low) / 2 ^ 64 ≡ high
high_of high low h = shr_high high 64 low h

low_of : (high low : ℕ) → low < 2 ^ 64 → (high * 2 ^ 64 + low) % 2 ^ 64 ≡ low
low_of high low h = omega (arith, shr_split (high * 2 ^ 64 + low) 64, high_of high low h)

-- the halves of the number that halves stand for are these
pub halves_of_number : (s : Inside) → (s.high < 2 ^ 64) × (s.low < 2 ^ 64)
    → halves_of (sum_view s) ≡ s
halves_of_number s fits =
    let bits : cast_unsigned w128 (cast_signed w128 (s.high * 2 ^ 64 + s.low)) ≡ s.high * 2 ^ 64 + s.low =
    of_z-to_z w128 (s.high * 2 ^ 64 + s.low) (omega (arith, fits.0, fits.1)) in
    λ i. record {
      high = (ap (λ n. n / 2 ^ 64) bits ∙ high_of s.high s.low fits.1) i;
      low = (ap (λ n. n % 2 ^ 64) bits ∙ low_of s.high s.low fits.1) i;
    }
