-- Keys of two numbers are added, and exchanged, by adding each of the numbers.
use Rattle.std.proofs.Common.{◌≡◌, ℕ, zero, suc, ◌+◌, ◌/◌, ◌%◌, ◌^◌, ◌<◌, ap, arith}
use Rattle.std.specs.Prelude.{FitsSigned}
use Rattle.std.specs.Int.{w128}
use Rattle.tdp_model.specs.KeyTuple.{KeyOf, key_add, slot_of}
use Rattle.tdp_model.specs.KeyNumbers.{sum_of}
use Rattle.rank_key.specs.Keys.{KeyFits}
use Rattle.rank_key.specs.Packed.{packed_key}
use Rattle.rank_key.specs.Digits.{packed_slot}
use Rattle.rank_key.specs.WidePacked.{front_of, with_rest}
use Rattle.rank_key.specs.declared.packed.PackedRank.{PackedRank}
use Rattle.rank_key.specs.declared.wide_packed.WidePackedRank.{WidePackedRank}

abbrev pub front_key : PackedRank → KeyOf 1 16
front_key r = packed_key r.number

abbrev pub wide_key : WidePackedRank → KeyOf 1 16
wide_key r = with_rest (packed_key r.front.number) r.rest

-- the front of a key that fits is the key of a packed rank
pub front_fits : (k : KeyOf 1 16) → KeyFits 1 wide_key k → KeyFits 1 front_key (front_of k)
front_fits k fits = (sums, slots, (fits.2.0.front, is))
  where
    is : packed_key fits.2.0.front.number ≡ front_of k
    is = ap front_of fits.2.1

    sums : (i : ℕ) → i < 1 → FitsSigned w128 (sum_of 1 16 i (front_of k))
    sums zero l = fits.0 0 l
    sums (suc i) l = absurd (omega arith)

    slots : (i : ℕ) → i < 16 → slot_of 1 16 i (front_of k) < 2 ^ 32
    slots i l = omega (arith, packed_slot fits.2.0.front.number i l, ap (slot_of 1 16 i) is)

digits_add : (n m p : ℕ) → p / 2 ^ 42 ≡ n / 2 ^ 42 + m / 2 ^ 42
    → p / 2 ^ 21 % 2 ^ 21 ≡ n / 2 ^ 21 % 2 ^ 21 + m / 2 ^ 21 % 2 ^ 21
    → p % 2 ^ 21 ≡ n % 2 ^ 21 + m % 2 ^ 21 → p ≡ n + m
digits_add n m p a b c = omega (arith, a, b, c)

-- the second number of a sum of keys
pub rests_add : (x y z : KeyOf 1 16) (n m p : ℕ)
    → with_rest z p ≡ key_add 1 16 (with_rest x n) (with_rest y m) → p ≡ n + m
rests_add x y z n m p e =
    digits_add n m p (ap (slot_of 1 16 4) e) (ap (slot_of 1 16 5) e) (ap (slot_of 1 16 6) e)

-- numbers that are those of a rank have its key
pub same_numbers : (x y : KeyOf 1 16) (n m : ℕ) → x ≡ y → n ≡ m → with_rest x n ≡ with_rest y m
same_numbers x y n m p q = λ i. with_rest (p i) (q i)
