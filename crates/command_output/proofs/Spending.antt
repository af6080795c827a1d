-- Sums on plain numbers: of steps that were counted, and of members that were given.
use Rattle.std.proofs.Common.{◌≡◌, ◌+◌, ◌-◌, ◌≤◌, ℕ, arith}

pub at_most_one : (n k : ℕ) → n ≤ n + k
at_most_one n k = omega arith

pub at_most_more : (n k l : ℕ) → n ≤ n + k + l
at_most_more n k l = omega arith

-- # Members that were given

pub none_given : (start : ℕ) → start ≡ start + 0
none_given start = omega arith

pub none_most : (n : ℕ) → 0 ≤ n
none_most n = omega arith

pub next_place : (place start given later : ℕ) → place ≡ start + given → later ≡ place + 1 → later ≡ start + (given + 1)
next_place place start given later at next = omega (arith, at, next)

pub moved_to : (place start given later all : ℕ) → place ≡ start + given → later ≡ place → all ≡ given → later ≡ start + all
moved_to place start given later all at same is = omega (arith, at, same, is)

pub stands_at : (place start given all : ℕ) → place ≡ start + given → all ≡ given → place ≡ start + all
stands_at place start given all at is = omega (arith, at, is)

pub all_were : (given count : ℕ) → given ≤ count → count ≤ given → given ≡ count
all_were given count few many = omega (arith, few, many)

pub none_over : (given count : ℕ) → count ≤ given → count - given ≡ 0
none_over given count many = omega (arith, many)
