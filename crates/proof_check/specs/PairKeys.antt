-- Pairs of a beginning's number and a row, each kept as one number.
use Rattle.std.specs.Prelude.{◌^◌, ◌/◌, ◌%◌, ℕ}

-- the pair that a number stands for: its low 32 bits, and the others
abbrev pub pair_of : ℕ → ℕ × ℕ
pair_of key = (key % 2 ^ 32, key / 2 ^ 32)
