-- Numbers that are known of a loop.
use Rattle.std.proofs.Common.{◌≡◌, ℕ, suc, ◌+◌, ◌-◌, ◌*◌, ◌<◌, ◌≤◌, Fits, arith}
use mir.Syntax.{w64}

-- a count that has come to its end
pub ended : (i n : ℕ) → i ≤ n → n ≤ i → i ≡ n
ended i n low high = omega (arith, low, high)

pub below_count : (i k n : ℕ) → i < k → k ≡ n → i < n
below_count i k n h e = omega (arith, h, e)

pub none_below : (i : ℕ) → i < 0 → ⊥
none_below i l = omega (arith, l)

-- a place in a list that is as long
pub at_list : (v n l : ℕ) → v < n → l ≡ n → v < l
at_list v n l h e = omega (arith, h, e)

pub within_few : (i n m : ℕ) → i < n → n ≤ m → i < m
within_few i n m l few = omega (arith, l, few)

pub no_more : (n : ℕ) → n ≤ n
no_more n = omega arith

pub then_less : (a b n : ℕ) → a < b → b < n → a < n
then_less a b n l h = omega (arith, l, h)

pub place_fits : (i n : ℕ) → i < n → n ≤ 16 → Fits w64 i
place_fits i n l few = omega (arith, l, few)

pub place_fits_4 : (i n : ℕ) → i < n → n ≤ 16 → Fits w64 (i * 4)
place_fits_4 i n l few = omega (arith, l, few)

-- a loop from v + 1
module _ (v q : ℕ) (past : v + 1 ≤ q) where
  pub past_it : v < q
  past_it = omega (arith, past)

  pub past_none : 0 < q
  past_none = omega (arith, past)

  pub past_by : q ≡ suc v + (q - suc v)
  past_by = omega (arith, past)

  pub past_next : q + 1 - suc v ≡ suc (q - suc v)
  past_next = omega (arith, past)

pub ended_after : (i v k n : ℕ) → (v + 1 ≤ k → i ≤ k) → k ≤ i → v < n → k ≡ n → i ≡ n
ended_after i v k n low high l e = let last = low (omega (arith, l, e)) in omega (arith, last, high, e)

pub ended_some : (i k n : ℕ) → (1 ≤ k → i ≤ k) → k ≤ i → k ≡ n → 1 ≤ n → i ≡ n
ended_some i k n low high e some = let last = low (omega (arith, e, some)) in omega (arith, last, high, e)
