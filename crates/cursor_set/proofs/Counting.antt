-- Sums on plain numbers, of what a call finds and of how far a cursor is driven.
use Rattle.std.proofs.Common.{◌≡◌, ◌+◌, ◌-◌, ◌^◌, ◌<◌, ◌≤◌, ◌≢◌, ℕ, min, arith}

pub least : (n : ℕ) → 0 ≤ n
least n = omega arith

pub one_more : (n m : ℕ) → n < m → n + 1 ≤ m
one_more n m h = omega (arith, h)

-- a place among the answers that were found, of which `len` are counted
pub past_found : (place len n : ℕ) → place < len → len ≡ n → place + 1 ≤ n
past_found place len n h e = omega (arith, h, e)

pub among_found : (place len n size : ℕ) → place < len → len ≡ n → n ≡ size → place < size
among_found place len n size h e f = omega (arith, h, e, f)

-- a place behind them
pub behind_found : (place len n : ℕ) → len ≤ place → len ≡ n → n ≤ place
behind_found place len n h e = omega (arith, h, e)

pub at_end_of : (place len n : ℕ) → len ≤ place → len ≡ n → place ≤ n → place ≡ n
at_end_of place len n h e k = omega (arith, h, e, k)

-- one answer more was found
pub grown : (n m : ℕ) → m ≡ n + 1 → n ≤ m
grown n m e = omega (arith, e)

pub next_found : (place n m : ℕ) → place ≡ n → m ≡ n + 1 → place + 1 ≤ m
next_found place n m at e = omega (arith, at, e)

pub seen_next : (n m k : ℕ) → m ≡ n + 1 → m + k ≤ n + k + 1
seen_next n m k e = omega (arith, e)

-- none was found
pub no_less : (n m : ℕ) → m ≡ n → n ≤ m
no_less n m e = omega (arith, e)

pub seen_end : (n m k : ℕ) → m ≡ n → m + 1 ≤ n + k + 1
seen_end n m k e = omega (arith, e)

pub seen_same : (n m k : ℕ) → m ≡ n → m + k ≤ n + k + 1
seen_same n m k e = omega (arith, e)

-- # How far a cursor is driven

pub room_at_start : 0 < 2 ^ 64 - 1
room_at_start = omega arith

pub room_left : (refused all : ℕ) → refused < all → refused + 1 ≢ all → refused + 1 < all
room_left refused all room other = omega (arith, room, other)

pub refused_more : (new now old refused : ℕ) → new ≡ min (now + 1) (2 ^ 64 - 1) → now ≡ min (old + refused) (2 ^ 64 - 1)
    → new ≡ min (old + (refused + 1)) (2 ^ 64 - 1)
refused_more new now old refused one before = omega (arith, one, before)

pub refused_past : (refused most : ℕ) → refused ≤ most → refused < 2 ^ 64 - 1 → most < refused + 1 → refused + 1 ≡ min (most + 1) (2 ^ 64 - 1)
refused_past refused most few room past = omega (arith, few, room, past)

pub refused_all : (refused most : ℕ) → refused + 1 ≤ most → refused + 1 ≡ 2 ^ 64 - 1 → refused + 1 ≡ min (most + 1) (2 ^ 64 - 1)
refused_all refused most few all = omega (arith, few, all)

-- what was asked for is known, from the place where the cursor stood
pub known_from : (place start members known : ℕ) → place + members ≤ known → start ≡ place → start + members ≤ known
known_from place start members known within is = omega (arith, within, is)

pub never_behind : {A : Type 0} (start given members known now : ℕ) → start + members ≤ known → now ≤ start + given → known ≤ now → given < members → A
never_behind {A} start given members known now within behind kept less = absurd (omega (arith, within, behind, kept, less))
