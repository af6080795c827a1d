-- The open cursors by name, and the cursor set that moves them.
use Rattle.std.specs.Prelude.{◌≡◌, ◌<◌, ℕ, Bool, false, List, Option, Some, None, length, map, option_map, slice_index_or}
use Rattle.std.specs.Str.{bytes_eq}
use Rattle.cursor_set.specs.CursorSet.{CursorSet}
use Rattle.output_model.specs.Session.{Places}
use Rattle.command_output.specs.declared.open_cursors.OpenCursor.{OpenCursor}

-- the cursor is open, and has this name
abbrev pub is_named : List ℕ → Option OpenCursor → Bool
is_named name None = false
is_named name (Some cursor) = bytes_eq cursor.name.now name

-- none of the first n cursors has this name
abbrev pub AreOthers : List (Option OpenCursor) → List ℕ → ℕ → Type 0
AreOthers cursors name n = (k : ℕ) → k < n
    → is_named name (slice_index_or cursors k None) ≡ false

abbrev pub IsAt : List (Option OpenCursor) → ℕ → OpenCursor → Type 0
IsAt cursors number cursor = slice_index_or cursors number None ≡ Some cursor

-- the cursor with this number has this name and this place
pub record HasCursor (cursors : List (Option OpenCursor)) (number : ℕ) (name : List ℕ)
    (place : ℕ) : Type 0 where
  pub cursor : OpenCursor
  pub at : IsAt cursors number cursor
  pub is : cursor.name.now ≡ name
  pub there : cursor.place ≡ place
  pub within : number < length cursors

-- The open cursors have these places by name, and the same places in the set. Each has a name of
-- its own.
pub record HoldsCursors (set : CursorSet) (cursors : List (Option OpenCursor))
    (places : Places) : Type 0 where
  pub same : set.places ≡ map (option_map (λ (cursor : OpenCursor). cursor.place)) cursors
  pub placed : (number : ℕ) (cursor : OpenCursor) → IsAt cursors number cursor
      → places cursor.name.now ≡ Some cursor.place
  pub known : (name : List ℕ) (place : ℕ) → places name ≡ Some place
      → (number : ℕ) × (cursor : OpenCursor) × IsAt cursors number cursor × (cursor.name.now ≡ name)
  pub distinct : (i j : ℕ) (a b : OpenCursor) → IsAt cursors i a → IsAt cursors j b
      → a.name.now ≡ b.name.now → i ≡ j
