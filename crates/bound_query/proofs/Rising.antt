-- The bound rises with the rows and with the calls, and a limit bounds the calls.
use Rattle.std.proofs.Common.{◌≡◌, ◌≤◌, ◌+◌, ◌*◌, ℕ, nat_le, true, false, if◌then◌else◌, Bool, List, length, take, Some, refl, ap, arith}
use Rattle.std.proofs.lemmas.Bool.{leb-false, leb-true}
use Rattle.std.proofs.lemmas.List.{length-take-le, take_all}
use Rattle.std.proofs.lemmas.Nat.{mul-le}
use Rattle.rank_key.specs.Bits.{bit_length}
use Rattle.rank_key.proofs.BitLemmas.{bit_length_rises}
use Rattle.bound_query.specs.Steps.{calls_for, cost}

pub calls_few : {A : Type 0} (n : ℕ) (list : List A) → calls_for (Some n) list ≤ n
calls_few n list = by (nat_le n (length list)) refl
  where
    by : (b : Bool) → nat_le n (length list) ≡ b → length (take n list) + (if b then 0 else 1) ≤ n
    by true e = let long = length-take-le n list (leb-true n (length list) e) in omega (arith, long)
    by false e = let past = leb-false n (length list) e in let long = ap length (take_all n list (omega (arith, past))) in omega (arith, long, past)

pub cost_rises : (l a b c d : ℕ) → a ≤ b → c ≤ d → cost l a c ≤ cost l b d
cost_rises l a b c d rows calls =
    let reach = mul-le c l d l calls (omega arith) in
    let digits = bit_length_rises (a + c * l) (b + d * l) (omega (arith, rows, reach)) in
    let each = mul-le c (1 + bit_length (a + c * l)) d (1 + bit_length (b + d * l)) calls (omega (arith, digits)) in
    mul-le (64 * (l * l)) (1 + a + c * (1 + bit_length (a + c * l))) (64 * (l * l)) (1 + b + d * (1 + bit_length (b + d * l))) (omega arith) (omega (arith, rows, each))
