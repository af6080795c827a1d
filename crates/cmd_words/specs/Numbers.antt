-- Whole numbers in an option.
use Rattle.std.specs.Prelude.{◌≤◌, ◌==◌, ◌&&◌, ◌||◌, ℕ, Bool, not, nat_le, List, length, slice_index, Option, Some, None, if◌then◌else◌}
use Rattle.std.specs.Str.Parse.{digits_value}
use Rattle.clap.specs.ValueTests.{is_numeral}

-- the text begins with no `+`, and with no `0` before another digit
abbrev pub begins_plainly : List ℕ → Bool
begins_plainly text = not (slice_index text 0 == 43) &&
    (not (slice_index text 0 == 48) || nat_le (length text) 1)

-- the number that a text is, if it is from `low` to `high`: decimal digits, without a sign and
-- without leading zeros
abbrev pub number_in : ℕ → ℕ → List ℕ → Option ℕ
number_in low high text =
    let n = digits_value 10 text in
    if is_numeral text &&
    (begins_plainly text && (nat_le low n && nat_le n high)) then Some n else None

-- `load`'s number and rows are in its range
pub record IsInRange (number rows : ℕ) : Type 0 where
  pub number_most : number ≤ 2147483647
  pub rows_least : 1 ≤ rows
  pub rows_most : rows ≤ 100000
