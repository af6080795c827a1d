-- The bound on the counted steps of an accepted input.
use Rattle.std.specs.Prelude.{◌≡◌, ◌+◌, ◌*◌, ◌++◌, ◌≤◌, ℕ, if◌then◌else◌, List, Option, Some, None, IfSome, Ok, take}
use Rattle.outer_io.specs.Files.{Files}
use Rattle.bound_query.specs.RunBounds.{cost_over, records_in}
use Rattle.bound_query.specs.Steps.{calls_for}
use Rattle.verdict.specs.AcceptedInput.{AcceptedInput, is_union, query_of, structure_of}
use Rattle.verdict.specs.Output.{asked_list, members_of, style_of, tagged_of}
use Rattle.verdict.specs.UnionBound.{union_cost, union_records}
use Rattle.output_model.specs.SessionCalls.{session_calls, session_reach}
use Rattle.output_model.specs.SessionPieces.{pieces_in}
use Rattle.verdict.specs.Verdict.{IsVerdict}
use Rattle.verdict.specs.Words.{Asked, Command, Words, a_command, load, plan, prove, run, session, verify}

-- the bound for this many calls for answers of the first query
abbrev pub cost_of : AcceptedInput → ℕ → ℕ
cost_of found calls = cost_over (query_of found) found.tables (structure_of found) calls

-- The greatest number of steps. For `run` and `load` the bound counts the calls that give the
-- members, over several branches those of each branch, and for `plan` no call. For `session` it
-- counts as many calls as its steps reach far, and 4 more steps for each call that they make. There
-- is no bound for `prove` and `verify`.
abbrev pub most_steps : Command → AcceptedInput → Option ℕ
most_steps (run words) found =
    Some (if is_union found then union_cost found.tables
    (tagged_of found) 0 found.queries found.shapes
    else cost_of found (calls_for (query_of found).limit (asked_list found)))
most_steps (plan words) found = Some (cost_of found 0)
most_steps (session script words) found =
    Some (cost_of found (session_reach (query_of found).limit (asked_list found) found.steps)
    + 4 * session_calls (query_of found).limit (asked_list found) found.steps)
most_steps (load number rows) found = Some
    (cost_of found (calls_for (query_of found).limit (asked_list found)))
most_steps (prove words) found = None
most_steps (verify proof words) found = None

-- the steps are within the bound, if there is one
abbrev pub KeepsCommandBound : Command → AcceptedInput → ℕ → ℕ → Type 0
KeepsCommandBound command found before now = IfSome (most_steps command found) (λ most. now ≤ before + most)

-- if the files are known and the input is accepted, the steps are within the bound, even if the
-- call ended early
abbrev pub IsBounded : Asked → Option Files → ℕ → ℕ → Type 0
IsBounded (a_command command) told before now = IfSome told
    (λ files. (found : AcceptedInput) → IsVerdict (a_command command) files (Ok found)
    → KeepsCommandBound command found before now)
IsBounded asked told before now = Unit {0}

-- the bound for the whole records in a part of the output of `run`, and for one more
abbrev pub steps_for_part : Words → AcceptedInput → List ℕ → ℕ
steps_for_part words found part =
    if is_union found then
    union_cost found.tables
    (take (union_records found.queries found.tables (tagged_of found) (style_of words) part + 1)
    (tagged_of found)) 0
    found.queries found.shapes
    else cost_of found (records_in (query_of found) found.tables (asked_list found)
    (style_of words) part + 1)

-- the bound for the whole pieces in a part of the output of `session`, and for one more, with 4
-- more steps for each
abbrev pub steps_for_pieces : Words → AcceptedInput → List ℕ → ℕ
steps_for_pieces words found part =
    cost_of found (pieces_in (query_of found) found.tables (style_of words) (members_of found)
    found.steps part + 1)
    + 4 * (pieces_in (query_of found) found.tables (style_of words) (members_of found)
    found.steps part + 1)

-- A run took no more steps than for the whole records that the output got, and one call more, and
-- a session no more than for its whole pieces, and one call more.
abbrev pub IsPaced : Command → AcceptedInput → Option (List ℕ) → Option (List ℕ) → ℕ → ℕ → Type 0
IsPaced (run words) found old new before now = (start part : List ℕ) → old ≡ Some start
    → new ≡ Some (start ++ part)
    → now ≤ before + steps_for_part words found part
IsPaced (plan words) found old new before now = Unit {0}
IsPaced (session script words) found old new before now = (start part : List ℕ)
    → old ≡ Some start → new ≡ Some (start ++ part)
    → now ≤ before + steps_for_pieces words found part
IsPaced (load number rows) found old new before now = Unit {0}
IsPaced (prove words) found old new before now = Unit {0}
IsPaced (verify proof words) found old new before now = Unit {0}

-- the same, if the files are known and the input is accepted
abbrev pub IsPrompt : Asked → Option Files → Option (List ℕ) → Option (List ℕ) → ℕ → ℕ → Type 0
IsPrompt (a_command command) told old new before now =
    IfSome told (λ files. (found : AcceptedInput) → IsVerdict (a_command command) files (Ok found)
    → IsPaced command found old new before now)
IsPrompt asked told old new before now = Unit {0}
