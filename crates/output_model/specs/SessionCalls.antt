-- The calls for members that a session makes: one for each member that a cursor is given, and one
-- for each `next` that finds the ranking's end. No call is made at the limit.
use Rattle.std.specs.Prelude.{ℕ, ◌+◌, ◌&&◌, Bool, not, nat_lt, min, max, if◌then◌else◌, List, [], ◌∷◌, length, drop, Option}
use Rattle.session_script.specs.declared.step.Step.{Step}
use Rattle.session_script.specs.declared.step.Step.TheVariants.{Open, Next, Fork, Rewind, Close}
use Rattle.anyk_model.specs.Output.{cut}
use Rattle.bound_query.specs.Steps.{reaches}
use Rattle.output_model.specs.Session.{Places, no_cursors, place_in, places_after}

-- the list ends where the ranking does, before the limit
abbrev pub ends_by_itself : {A : Type 0} → Option ℕ → List A → Bool
ends_by_itself limit ranking = not (reaches limit ranking)

-- the calls of a step that asks for `count` members when `left` are left, in a list that may end by
-- itself
abbrev pub calls_among : Bool → ℕ → ℕ → ℕ
calls_among ends left count = min count left + (if ends && nat_lt left count then 1 else 0)

-- the calls of one step
abbrev pub calls_of_step : Bool → List (List ℕ) → Places → Step → ℕ
calls_of_step ends members places (Open name) = 0
calls_of_step ends members places (Next name count) = calls_among ends
    (length (drop (place_in places name) members)) count
calls_of_step ends members places (Fork name new) = 0
calls_of_step ends members places (Rewind name) = 0
calls_of_step ends members places (Close name) = 0

-- the calls of steps, one after another
abbrev pub calls_of_steps : Bool → List (List ℕ) → Places → List Step → ℕ
calls_of_steps ends members places [] = 0
calls_of_steps ends members places (step ∷ steps) = calls_of_step ends members places step
    + calls_of_steps ends members (places_after members places step) steps

-- how far one step reaches in the list: the place that its cursor gets to, and one place more if it
-- finds the end
abbrev pub reach_of_step : Bool → List (List ℕ) → Places → Step → ℕ
reach_of_step ends members places (Open name) = 0
reach_of_step ends members places (Next name count) = place_in places name
    + calls_among ends (length (drop (place_in places name) members)) count
reach_of_step ends members places (Fork name new) = 0
reach_of_step ends members places (Rewind name) = 0
reach_of_step ends members places (Close name) = 0

-- how far steps reach, one after another
abbrev pub reach_of_steps : Bool → List (List ℕ) → Places → List Step → ℕ
reach_of_steps ends members places [] = 0
reach_of_steps ends members places (step ∷ steps) = max (reach_of_step ends members places step)
    (reach_of_steps ends members (places_after members places step) steps)

-- the same for a whole script, over the members of a ranking that are within a limit
abbrev pub session_calls : Option ℕ → List (List ℕ) → List Step → ℕ
session_calls limit ranking script = calls_of_steps (ends_by_itself limit ranking)
    (cut limit ranking) no_cursors script

abbrev pub session_reach : Option ℕ → List (List ℕ) → List Step → ℕ
session_reach limit ranking script = reach_of_steps (ends_by_itself limit ranking)
    (cut limit ranking) no_cursors script
