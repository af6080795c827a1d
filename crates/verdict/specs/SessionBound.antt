-- The greatest number of steps of a session over a query.
use Rattle.std.specs.Prelude.{◌≡◌, ◌+◌, ◌*◌, ◌≤◌, ◌++◌, ℕ, List, Option, Some, Ok}
use Rattle.anyk_model.specs.Table.{Table}
use Rattle.anyk_model.specs.Query.{Query}
use Rattle.anyk_model.specs.Output.{Style, cut}
use Rattle.bound_query.specs.Shape.{IsShape, Shape}
use Rattle.session_script.specs.declared.step.Step.{Step}
use Rattle.bound_query.specs.RunBounds.{cost_over}
use Rattle.output_model.specs.SessionCalls.{session_calls, session_reach}
use Rattle.output_model.specs.SessionPieces.{pieces_in}

-- no more steps than the bound for as many calls as the script reaches far, and 4 more for each
-- call that it makes
abbrev pub KeepsSessionBound : Query → List Table → List (List ℕ) → List Step → ℕ → ℕ → Type 0
KeepsSessionBound query tables list script before now =
    (shape : Shape) → IsShape query tables (Ok shape)
    → now ≤ before + cost_over query tables shape (session_reach query.limit list script)
    + 4 * session_calls query.limit list script

-- no more steps than for the whole pieces that were written, and one more: the bound for as many
-- calls, and 4 more for each of them
abbrev pub KeepsSessionPace : Query → List Table → List (List ℕ) → Style → List Step
    → Option (List ℕ) → Option (List ℕ) → ℕ → ℕ → Type 0
KeepsSessionPace query tables list style script old new before now =
    (shape : Shape) → IsShape query tables (Ok shape) → (start part : List ℕ) → old ≡ Some start
    → new ≡ Some (start ++ part)
    → now ≤ before + cost_over query tables shape
    (pieces_in query tables style (cut query.limit list) script part + 1)
    + 4 * (pieces_in query tables style (cut query.limit list) script part + 1)
