-- Why calls on a set of cursors are refused.
use Rattle.std.specs.Prelude.{◌≡◌, ℕ, ◌≤◌, false, None, Result, Ok, Err, IsSome, IsSomeAnd}
use Rattle.tdp_core.specs.AnswerView.{counted}
use Rattle.cursor_set.specs.declared.cursor_id.CursorFault.{CursorFault}
use Rattle.cursor_set.specs.declared.cursor_id.CursorFault.TheVariants.{Unknown, TooMany, NoMemory}
use Rattle.cursor_set.specs.CursorSet.{CursorSet, place_of, first_free}

-- when a call of `next` on a cursor is refused: the cursor is unknown, or memory is refused for an
-- answer that was not found yet and the end was not seen
abbrev pub RefusesNext : CursorSet → ℕ → CursorFault → Type 0
RefusesNext s number (Unknown id) = (id.number ≡ number) × (place_of s number ≡ None)
RefusesNext s number TooMany = ⊥
RefusesNext s number NoMemory = IsSomeAnd (place_of s number)
    (λ place. (s.known ≤ place) × (s.ended ≡ false))

-- when a fork of a cursor is refused: the cursor is unknown, or no number is free
abbrev pub RefusesFork : CursorSet → ℕ → CursorFault → Type 0
RefusesFork s number (Unknown id) = (id.number ≡ number) × (place_of s number ≡ None)
RefusesFork s number TooMany = IsSome (place_of s number) × (first_free s ≡ None)
RefusesFork s number NoMemory = ⊥

-- how many calls were refused memory, after one more call with this result
abbrev pub refused_after : {A : Type 0} → Result A CursorFault → ℕ → ℕ
refused_after (Ok _) n = n
refused_after (Err (Unknown _)) n = n
refused_after (Err TooMany) n = n
refused_after (Err NoMemory) n = counted n
