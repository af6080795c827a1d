-- Counts over two calls, one after the other.
use Rattle.std.proofs.Common.{◌≡◌, ℕ, ◌+◌, ◌<◌, ◌≤◌, ◌⊎◌, min, arith}
use Rattle.outer_io.specs.Counts.{last_count, Rose, RoseBy, RoseAbove}

-- a count that rose by n in all has risen by n + k after a read of k bytes
pub RoseBy-more : (start before now n k : ℕ) → (start + n ≤ before) ⊎ (before ≡ last_count) → RoseBy k before now → now ≤ last_count
    → (start + (n + k) ≤ now) ⊎ (now ≡ last_count)
RoseBy-more start before now n k p q fits = grind arith

pub RoseBy-above : (start before now n k limit : ℕ) → (start + n ≤ before) ⊎ (before ≡ last_count) → RoseBy k before now → now ≤ last_count
    → limit < n + k → RoseAbove limit start now
RoseBy-above start before now n k limit p q fits h = grind arith

-- the count rose in a call that follows another
pub Rose-after : (a b c : ℕ) → a ≤ b → Rose b c → Rose a c
Rose-after a b c p q = grind arith

-- a count is raised as far as its type reaches
pub Rose-saturating : (before now : ℕ) → now ≡ min (before + 1) last_count → Rose before now
Rose-saturating before now is = grind arith

pub RoseBy-saturating : (n before now : ℕ) → now ≡ min (before + n) last_count → RoseBy n before now
RoseBy-saturating n before now is = grind arith

pub at_most_last : (before n now : ℕ) → now ≡ min (before + n) last_count → now ≤ last_count
at_most_last before n now is = omega arith
