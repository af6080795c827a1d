-- The pieces that a session prints after its header: one for each member that a cursor is given,
-- and one for each `next` that ends early.
use Rattle.std.specs.Prelude.{ℕ, zero, suc, List, [], ◌∷◌, ◌++◌, length, drop, codes}
use Rattle.session_script.specs.declared.step.Step.{Step}
use Rattle.session_script.specs.declared.step.Step.TheVariants.{Open, Next, Fork, Rewind, Close}
use Rattle.anyk_model.specs.Table.{Table}
use Rattle.anyk_model.specs.Query.{Query}
use Rattle.anyk_model.specs.Output.{Style, header_text, line_text}
use Rattle.bound_query.specs.Steps.{whole_lines}
use Rattle.output_model.specs.Session.{Places, no_cursors, place_in, places_after, with_name}

-- a line for each of the first `count` members, and the ending if there are fewer
abbrev pub next_pieces : (List ℕ → List ℕ) → List ℕ → List (List ℕ) → ℕ → List (List ℕ)
next_pieces line ending members zero = []
next_pieces line ending [] (suc count) = ending ∷ []
next_pieces line ending (member ∷ members) (suc count) = line member
    ∷ next_pieces line ending members count

-- the pieces of one step
abbrev pub step_pieces : (List ℕ → List ℕ → List ℕ) → List (List ℕ) → Places → Step
    → List (List ℕ)
step_pieces line members places (Open name) = []
step_pieces line members places (Next name count) = next_pieces (line name) (name ++ codes "\n")
    (drop (place_in places name) members) count
step_pieces line members places (Fork name new) = []
step_pieces line members places (Rewind name) = []
step_pieces line members places (Close name) = []

-- the pieces of steps, one after another
abbrev pub steps_pieces : (List ℕ → List ℕ → List ℕ) → List (List ℕ) → Places → List Step
    → List (List ℕ)
steps_pieces line members places [] = []
steps_pieces line members places (step ∷ steps) = step_pieces line members places step
    ++ steps_pieces line members (places_after members places step) steps

-- the same for a whole script, each record with the name of its cursor
abbrev pub session_pieces : Query → List Table → Style → List (List ℕ) → List Step
    → List (List ℕ)
session_pieces query tables style members script =
    steps_pieces (λ name. line_text query tables (with_name style name)) members no_cursors script

-- the number of whole pieces, after the header, in a part of the output
abbrev pub pieces_in : Query → List Table → Style → List (List ℕ) → List Step → List ℕ → ℕ
pieces_in query tables style members script part =
    whole_lines (session_pieces query tables style members script)
    (drop (length (header_text query tables (with_name style []))) part)
