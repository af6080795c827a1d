-- The cost of calls on a set of cursors.
use Rattle.std.specs.Prelude.{◌≡◌, ◌+◌, ◌-◌, ◌*◌, ◌≤◌, ◌++◌, ℕ, List, Option, None, Some, Result, OnOk, nat_lt, max, if◌then◌else◌}
use Rattle.cursor_set.specs.CursorSet.{CursorSet, seen_of}
use Rattle.bound_query.specs.Steps.{steps_for}

-- the greatest number of steps of the next `calls` calls of the engine, in this state of the set
abbrev pub engine_steps : (List ℕ → ℕ → ℕ) → CursorSet → ℕ → ℕ
engine_steps share set calls = steps_for (λ n. share set.size (set.calls + n)) calls

-- the steps of calls on the set: the calls of the engine that are needed to see up to `reach`, and
-- 4 steps for each call of the set
abbrev pub KeepsSessionCost : (List ℕ → ℕ → ℕ) → CursorSet → ℕ → ℕ → ℕ → ℕ → Type 0
KeepsSessionCost share set reach calls before now = now
    ≤ before + engine_steps share set (reach - seen_of set) + 4 * calls

-- Such calls lead from one state of the set to another. The engine was called only for what is
-- newly seen, each call saw one thing more at most, and nothing beyond `reach` was newly seen.
pub record Spent (share : List ℕ → ℕ → ℕ) (old new : CursorSet)
    (reach calls before now : ℕ) : Type 0 where
  pub size : new.size ≡ old.size
  pub rises : seen_of old ≤ seen_of new
  pub few : new.calls + seen_of old ≤ old.calls + seen_of new
  pub grown : seen_of new ≤ seen_of old + calls
  pub far : seen_of new ≤ max (seen_of old) reach
  pub steps : now ≤ before + engine_steps share old (seen_of new - seen_of old) + 4 * calls

-- the same, and the last call may have been refused memory
pub record Paid {A E : Type 0} (share : List ℕ → ℕ → ℕ) (old new : CursorSet)
    (reach calls before now : ℕ) (result : Result A E) : Type 0 where
  pub spent : OnOk result (Spent share old new reach calls before now)
  pub within : KeepsSessionCost share old reach calls before now

-- Pieces were written one by one, with at most one call of the set before each. The steps of the
-- calls are within those for the whole pieces that were written, and for one call more.
abbrev pub SetPaced : (List ℕ → ℕ → ℕ) → CursorSet → (List ℕ → ℕ) → Option (List ℕ)
    → Option (List ℕ) → ℕ → ℕ → Type 0
SetPaced share set whole_in old new before now = (start part : List ℕ) → old ≡ Some start
    → new ≡ Some (start ++ part)
    → now ≤ before + engine_steps share set (whole_in part + 1) + 4 * (whole_in part + 1)

-- the calls for the member at a place: none if the place is at the limit
abbrev pub calls_at : Option ℕ → ℕ → ℕ
calls_at None place = 1
calls_at (Some limit) place = if nat_lt place limit then 1 else 0
