-- What a session prints: cursors over the members of one list, which the steps of a script open,
-- move and close.
use Rattle.std.specs.Prelude.{ℕ, zero, suc, ◌+◌, List, [], ◌∷◌, ◌++◌, length, take, drop, if◌then◌else◌, Option, Some, None, unwrap_or, codes}
use Rattle.std.specs.Str.{bytes_eq}
use Rattle.session_script.specs.declared.step.Step.{Step}
use Rattle.session_script.specs.declared.step.Step.TheVariants.{Open, Next, Fork, Rewind, Close}
use Rattle.anyk_model.specs.Table.{Table}
use Rattle.anyk_model.specs.Query.{Query}
use Rattle.anyk_model.specs.Output.{Style, header_text, line_text}

-- the place in the list of each cursor that is open, by its name
abbrev pub Places : Type 0
Places = List ℕ → Option ℕ

abbrev pub no_cursors : Places
no_cursors = λ name. None

-- the same cursors, except that this name has this place, or no cursor
abbrev pub with_cursor : Places → List ℕ → Option ℕ → Places
with_cursor places name place = λ other. if bytes_eq other name then place else places other

-- the place of the cursor of this name
abbrev pub place_in : Places → List ℕ → ℕ
place_in places name = unwrap_or (places name) 0

-- a line for each of the first `count` members, and the ending if there are fewer
abbrev pub next_text : (List ℕ → List ℕ) → List ℕ → List (List ℕ) → ℕ → List ℕ
next_text line ending members zero = []
next_text line ending [] (suc count) = ending
next_text line ending (member ∷ members) (suc count) = line member
    ++ next_text line ending members count

-- what a step prints: `next` prints the members from its cursor's place, and the cursor's name
-- alone if the list ends before that
abbrev pub step_text : (List ℕ → List ℕ → List ℕ) → List (List ℕ) → Places → Step → List ℕ
step_text line members places (Open name) = []
step_text line members places (Next name count) = next_text (line name) (name ++ codes "\n")
    (drop (place_in places name) members) count
step_text line members places (Fork name new) = []
step_text line members places (Rewind name) = []
step_text line members places (Close name) = []

-- the places of the cursors after a step
abbrev pub places_after : List (List ℕ) → Places → Step → Places
places_after members places (Open name) = with_cursor places name (Some 0)
places_after members places (Next name count) =
    with_cursor places name
    (Some (place_in places name + length (take count (drop (place_in places name) members))))
places_after members places (Fork name new) = with_cursor places new (places name)
places_after members places (Rewind name) = with_cursor places name (Some 0)
places_after members places (Close name) = with_cursor places name None

-- what steps print, one after another
abbrev pub steps_text : (List ℕ → List ℕ → List ℕ) → List (List ℕ) → Places → List Step → List ℕ
steps_text line members places [] = []
steps_text line members places (step ∷ steps) = step_text line members places step
    ++ steps_text line members (places_after members places step) steps

abbrev pub with_name : Style → List ℕ → Style
with_name style name = record style { cursor = Some name }

-- the header with the title of the cursors' names, and then what the steps print, each record with
-- the name of its cursor
abbrev pub session_text : Query → List Table → Style → List (List ℕ) → List Step → List ℕ
session_text query tables style members steps =
    header_text query tables (with_name style [])
    ++ steps_text (λ name. line_text query tables (with_name style name)) members no_cursors
    steps
