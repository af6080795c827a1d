-- Numbers that are known of a line or a loop.
use Rattle.std.proofs.Common.{◌≡◌, ℕ, suc, ◌+◌, ◌-◌, ◌<◌, ◌≤◌, Fits, arith}
use mir.Syntax.{w32}
pub use Rattle.tdp_core.proofs.LoopCounts.{at_list, below_count, ended, ended_after as ended_from, no_more}
pub use Rattle.tdp_core.proofs.LoopCounts.{none_below, place_fits, place_fits_4, within_few}

-- nodes count from 1 in a line
module _ (a v : ℕ) (is : a ≡ suc v) where
  pub line_some : 1 ≤ a
  line_some = omega (arith, is)

  pub line_pred : v ≡ a - 1
  line_pred = omega (arith, is)

  pub line_suc : a ≡ suc (a - 1)
  line_suc = omega (arith, is)

  pub line_below : (n : ℕ) → v < n → a - 1 < n
  line_below n l = omega (arith, is, l)

  pub line_within : (n m : ℕ) → v < n → n ≤ m → a - 1 < m
  line_within n m l h = omega (arith, is, l, h)

  pub line_index : (n l k : ℕ) → v < n → l ≡ n → k ≡ l → a - 1 < k
  line_index n l k h e f = omega (arith, is, h, e, f)

pub at_index : (v n l k : ℕ) → v < n → l ≡ n → k ≡ l → v < k
at_index v n l k h e f = omega (arith, h, e, f)

pub up_to : (k n : ℕ) → k < n → k ≤ n
up_to k n l = omega (arith, l)

pub few_more : (a b m l : ℕ) → a ≤ b → b ≤ m → a ≡ l → l ≤ m
few_more a b m l low high e = omega (arith, low, high, e)

-- what is equal to some number but zero
pub some_of : (a b : ℕ) → a ≡ b → (a ≡ 0 → ⊥) → 0 < b
some_of a b e f = omega (arith, e, f)

-- a count from v, or from 1, that has come to its end
pub ended_at : (i v k n : ℕ) → (v ≤ k → i ≤ k) → k ≤ i → v < n → k ≡ n → i ≡ n
ended_at i v k n low high l e = let last = low (omega (arith, l, e)) in omega (arith, last, high, e)

pub ended_some : (i k : ℕ) → (1 ≤ k → i ≤ k) → k ≤ i → 0 < k → i ≡ k
ended_some i k low high some = let last = low (omega (arith, some)) in omega (arith, last, high)

pub not_both : (a b : ℕ) → a ≤ b → b < a → ⊥
not_both a b l far = omega (arith, l, far)

-- what is equal to something less, or both are
pub less_of : (a b n : ℕ) → a ≡ b → b < n → a < n
less_of a b n e l = omega (arith, e, l)

pub less_both : (a b k n : ℕ) → a ≡ b → k ≡ n → a < k → b < n
less_both a b k n e f l = omega (arith, e, f, l)

pub least_both : (a b k n : ℕ) → a ≡ b → k ≡ n → a ≤ k → b ≤ n
least_both a b k n e f l = omega (arith, e, f, l)

pub above_root : (v q : ℕ) → v < q → 0 < q
above_root v q l = omega (arith, l)

-- the last of the first n + 1
pub last_one : (i n : ℕ) → i < n + 1 → n ≤ i → i ≡ n
last_one i n l far = omega (arith, l, far)

pub within_end : (m n i : ℕ) → m < n → n ≤ i → m < i
within_end m n i l end = omega (arith, l, end)

-- a count of places that are 0 or 1
pub few_added : (new old b r n : ℕ) → new ≡ old + b → b ≡ r → r ≤ 1 → old ≤ n → new ≤ n + 1
few_added new old b r n e is small few = omega (arith, e, is, small, few)

pub few_fits : (old b r i n : ℕ) → b ≡ r → r ≤ 1 → old ≤ i → i < n → n ≤ 16 → Fits w32 (old + b)
few_fits old b r i n is small few l most = omega (arith, is, small, few, l, most)

pub few_same : (new old n : ℕ) → new ≡ old → old ≤ n → new ≤ n + 1
few_same new old n e few = omega (arith, e, few)
