-- What contracts see of a set of cursors.
use Rattle.std.specs.Prelude.{◌≡◌, ℕ, ◌+◌, ◌≤◌, Bool, true, if◌then◌else◌, ◌⊎◌, Option, Some, None, IfSome, is_none, List, All, position, slice_index_or, slice_set}
use Rattle.tdp_core.specs.AnswerView.{AnswerView}

-- cursors over one list of answers
pub record CursorSet : Type 0 where
  -- the answers, found or not
  pub answers : List AnswerView
  -- how many of them were found
  pub known : ℕ
  -- whether the end was seen
  pub ended : Bool
  -- the place of each open cursor
  pub places : List (Option ℕ)
  -- how many calls were refused memory, at most 2 ^ 64 - 1
  pub refused : ℕ
  -- how often the engine was called, and the greatest number of steps of its next call
  pub calls : ℕ
  pub due : ℕ
  -- what the engine's bound on steps depends on beside the calls
  pub size : List ℕ

-- the place of a cursor, if it is open
abbrev pub place_of : CursorSet → ℕ → Option ℕ
place_of s number = slice_index_or s.places number None

abbrev pub IsOpen : CursorSet → ℕ → Type 0
IsOpen s number = (place : ℕ) × (place_of s number ≡ Some place)

-- the least number that is not open, if there is one
abbrev pub first_free : CursorSet → Option ℕ
first_free s = position is_none s.places

-- the same set, with one cursor's place changed
abbrev pub with_place : CursorSet → ℕ → Option ℕ → CursorSet
with_place s number place = record s { places = slice_set s.places number place }

-- the answer at this place was found already, or the end was seen there
abbrev pub IsKnownAt : CursorSet → ℕ → Type 0
IsKnownAt s number = (place : ℕ) × (place_of s number ≡ Some place)
    × ((place + 1 ≤ s.known) ⊎ (s.ended ≡ true))

-- no cursor's place passes the answers that were found
abbrev pub ArePlacesKnown : CursorSet → Type 0
ArePlacesKnown s = All (λ place. IfSome place (λ n. n ≤ s.known)) s.places

-- how much of the list was seen: each answer that was found, and the end
abbrev pub seen_of : CursorSet → ℕ
seen_of s = s.known + (if s.ended then 1 else 0)

-- nothing of the answers is lost or forgotten
pub record Keeps (old new : CursorSet) : Type 0 where
  pub answers : new.answers ≡ old.answers
  pub known : old.known ≤ new.known
  pub ended : old.ended ≡ true → new.ended ≡ true
  pub size : new.size ≡ old.size
