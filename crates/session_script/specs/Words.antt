-- What a line of a script says.
use Rattle.std.specs.Prelude.{ℕ, ◌+◌, ◌-◌, ◌*◌, List, [], ◌∷◌, length, Option, Some, None, Bool, true, ◌==◌, ◌&&◌, nat_le, if◌then◌else◌, codes, fold, option_and_then}
use Rattle.std.specs.List.{list_all}
use Rattle.std.specs.Str.{bytes_eq}
use Rattle.std.specs.Char.{is_ascii_digit}
use Rattle.text_lines.specs.Parts.{parts}
use Rattle.session_script.specs.Names.{name_of}
use Rattle.session_script.specs.declared.step.Step.{Step}
use Rattle.session_script.specs.declared.step.Step.TheVariants as step

-- an empty line, or a comment
abbrev pub is_skipped : List ℕ → Bool
is_skipped [] = true
is_skipped (b ∷ bs) = b == 35

-- 1 to 9 digits
abbrev pub is_count : List ℕ → Bool
is_count text = nat_le 1 (length text) && (nat_le (length text) 9 && list_all is_ascii_digit text)

abbrev pub decimal_value : List ℕ → ℕ
decimal_value text = fold (λ n d. n * 10 + (d - 48)) 0 text

abbrev pub count_of : List ℕ → Option ℕ
count_of text = if is_count text then Some (decimal_value text) else None

-- `open NAME`, `rewind NAME` and `close NAME`
unfoldable pub one_name_step : List ℕ → List ℕ → Option Step
one_name_step word text = option_and_then (λ name.
    if bytes_eq word (codes "open") then Some (step.Open name) else
    if bytes_eq word (codes "rewind") then Some (step.Rewind name) else
    if bytes_eq word (codes "close") then Some (step.Close name) else None) (name_of text)

unfoldable pub next_step : List ℕ → List ℕ → Option Step
next_step text digits = option_and_then
    (λ name. option_and_then (λ count. Some (step.Next name count)) (count_of digits))
    (name_of text)

unfoldable pub fork_step : List ℕ → List ℕ → Option Step
fork_step text new = option_and_then
    (λ name. option_and_then (λ other. Some (step.Fork name other)) (name_of new)) (name_of text)

-- `next NAME M` and `fork NAME NEW`
unfoldable pub two_part_step : List ℕ → List ℕ → List ℕ → Option Step
two_part_step word first second =
    if bytes_eq word (codes "next") then next_step first second else
    if bytes_eq word (codes "fork") then fork_step first second else None

-- the step that the parts of a line say
unfoldable pub step_of_parts : List (List ℕ) → Option Step
step_of_parts (word ∷ text ∷ []) = one_name_step word text
step_of_parts (word ∷ first ∷ second ∷ []) = two_part_step word first second
step_of_parts _ = None

abbrev pub step_of : List ℕ → Option Step
step_of line = step_of_parts (parts line)
