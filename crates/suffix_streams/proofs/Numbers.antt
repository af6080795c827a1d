-- Steps of arithmetic that several proofs take, each between numbers that are named by long terms there.
use Rattle.std.proofs.Common.{Fits, w64, ◌≡◌, ℕ, ◌+◌, ◌<◌, ◌≤◌, max, arith}

pub in_same : (v n m : ℕ) → v < n → m ≡ n → v < m
in_same v n m l e = omega arith

pub in_equal : (v n m : ℕ) → v < n → n ≡ m → v < m
in_equal v n m l e = omega arith

pub one_within : (n : ℕ) → 0 < n → 1 ≤ n
one_within n h = omega arith

pub same_few : (n m : ℕ) → n ≡ m → n ≤ m
same_few n m e = omega arith

pub queue_itself : (n more : ℕ) → n ≤ max 1 n + more
queue_itself n more = omega arith

pub no_steps : (s n : ℕ) → s ≤ s + 1 + n
no_steps s n = omega arith

pub kids_few : (count kids n most : ℕ) → count ≡ kids → kids ≤ n → n ≤ most → count ≤ most
kids_few count kids n most e h few = omega arith

pub child_fits : (i k n : ℕ) → i < k → k ≤ n → n ≤ 16 → Fits w64 (i + 1)
child_fits i k n l most few = omega arith
