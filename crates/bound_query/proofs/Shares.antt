-- The shares of the bound add up.
use Rattle.std.proofs.Common.{◌≡◌, ◌≤◌, ◌+◌, ◌-◌, ◌*◌, ℕ, zero, suc, ap, arith}
use Rattle.std.proofs.lemmas.Nat.{mul-le}
use Rattle.rank_key.specs.Bits.{bit_length}
use Rattle.rank_key.proofs.BitLemmas.{bit_length_rises}
use Rattle.bound_query.specs.Steps.{cost, steps_for}

-- at suc k items, where d is the number of binary digits
add_up : (k b n c d : ℕ) → n ≤ b
    → 16 * (suc k * suc k * (1 + b)) + 16 * (suc k * (1 + n)) + c * (24 * (suc k * (1 + d))) ≤ 64 * (suc k * suc k) * (1 + b + c * (1 + d))
add_up k b n c d h =
    let rows = mul-le (suc k) (1 + n) (suc k) (1 + b) (omega arith) (omega (arith, h)) in
    let sum : 16 * (suc k * suc k * (1 + b)) + 16 * (suc k * (1 + b)) + c * (24 * (suc k * (1 + d))) ≤ 64 * (suc k * suc k) * (1 + b + c * (1 + d)) = omega arith in
    omega (arith, rows, sum)

pub shares : (l b n c : ℕ) (share : ℕ → ℕ) → 1 ≤ l → n ≤ b → ((k : ℕ) → share k ≤ 24 * (l * (1 + bit_length (n + (k + 1) * l))))
    → 16 * (l * l * (1 + b)) + 16 * (l * (1 + n)) + steps_for share c ≤ cost l b c
shares zero b n c share some within each = absurd (omega (arith, some))
shares (suc k) b n zero share some within each = omega (arith, add_up k b n zero (bit_length (b + zero * suc k)) within)
shares (suc k) b n (suc c) share some within each =
    let l = suc k in
    let digits : bit_length (n + (c + 1) * l) ≤ bit_length (b + suc c * l) = bit_length_rises (n + (c + 1) * l) (b + suc c * l) (omega (arith, within)) in
    let one : share (suc c - 1) ≤ 24 * (l * (1 + bit_length (b + suc c * l))) =
    let e = each c in
    let more = mul-le l (1 + bit_length (n + (c + 1) * l)) l (1 + bit_length (b + suc c * l)) (omega arith) (omega (arith, digits)) in
    let same : share (suc c - 1) ≡ share c = ap share (omega arith) in omega (arith, e, more, same) in
    let all = mul-le (suc c) (share (suc c - 1)) (suc c) (24 * (l * (1 + bit_length (b + suc c * l)))) (omega arith) one in
    let sum = add_up k b n (suc c) (bit_length (b + suc c * l)) within in omega (arith, all, sum)
