-- The forms of the lines of a certificate, without their ends.
use Rattle.std.specs.Prelude.{ℕ, ◌==◌, ◌&&◌, ◌||◌, Bool, true, false, not, nat_le, if◌then◌else◌, List, [], ◌∷◌}
use Rattle.std.specs.Prelude.{length}
use Rattle.std.specs.Prelude.{Option, Some, None, option_map, option_and_then, codes, slice_index}
use Rattle.std.specs.List.{list_all}
use Rattle.std.specs.Str.{bytes_eq}
use Rattle.std.specs.Str.Parse.{digits_value}
use Rattle.std.specs.Char.{is_ascii_digit}
use Rattle.text_lines.specs.Parts.{parts}

-- 1 to 7 digits, of which the first is 0 in `0` alone
abbrev pub is_number : List ℕ → Bool
is_number text =
    nat_le 1 (length text) && (nat_le (length text) 7
    && (list_all is_ascii_digit text && (length text == 1 || not (slice_index text 0 == 48))))

abbrev pub number_of : List ℕ → Option ℕ
number_of text = if is_number text then Some (digits_value 10 text) else None

-- the numbers that all parts are
abbrev pub numbers_of : List (List ℕ) → Option (List ℕ)
numbers_of [] = Some []
numbers_of (text ∷ more) = option_and_then (λ n. option_map (λ ns. n ∷ ns) (numbers_of more))
    (number_of text)

-- what a line says
pub data LineForm : Type 0 where
  bound : (node : ℕ) (rows : List ℕ) → LineForm
  answer : (rows : List ℕ) → LineForm
  last : (ended : Bool) → LineForm

-- `bound NODE ROW ..`, with at least one row
abbrev pub bound_line : List ℕ → Option LineForm
bound_line [] = None
bound_line (node ∷ []) = None
bound_line (node ∷ row ∷ rows) = Some (bound node (row ∷ rows))

-- `answer ROW ..`, with at least one row
abbrev pub answer_line : List ℕ → Option LineForm
answer_line [] = None
answer_line (row ∷ rows) = Some (answer (row ∷ rows))

-- `more` or `end`
abbrev pub last_line : List ℕ → Option LineForm
last_line word =
    if bytes_eq word (codes "more") then Some (last false) else
    if bytes_eq word (codes "end") then Some (last true) else None

-- a word and numbers
abbrev pub numbers_line : List ℕ → List (List ℕ) → Option LineForm
numbers_line word parts =
    if bytes_eq word (codes "bound") then option_and_then bound_line (numbers_of parts) else
    if bytes_eq word (codes "answer") then option_and_then answer_line (numbers_of parts) else None

unfoldable pub line_of_parts : List (List ℕ) → Option LineForm
line_of_parts [] = None
line_of_parts (word ∷ []) = last_line word
line_of_parts (word ∷ part ∷ parts) = numbers_line word (part ∷ parts)

-- what a line says, and None if it has no form
abbrev pub line_of : List ℕ → Option LineForm
line_of text = line_of_parts (parts text)
