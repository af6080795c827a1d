-- The entries of the command line that name tables, as pairs of a table's name and its file's.
use Rattle.std.specs.Prelude.{◌≡◌, ℕ, if◌then◌else◌, List, [], ◌∷◌, ◌++◌, map, Some, Result, Ok, Err}
use Rattle.std.specs.List.{AllByRecursion, list_any}
use Rattle.std.specs.Str.{bytes_eq}
use Rattle.outer_io.specs.Files.{Files, bytes_of}
use Rattle.anyk_model.specs.Table.{Table}
use Rattle.query_select.specs.declared.select.ItemRef.{ItemRef}
use Rattle.refusals.specs.Reason.{Reason}
use Rattle.verdict.specs.Loading.{first_uses, table_in, table_numbers}
use Rattle.verdict.specs.Stages.{Is}

-- the pair is the first of these that names its table
abbrev pub IsEntryOf : List (List ℕ × List ℕ) → List ℕ × List ℕ → Type 0
IsEntryOf named entry = bytes_of named entry.0 ≡ Some entry.1

abbrev pub tables_of : List (List ℕ × List ℕ) → List (List ℕ)
tables_of entries = map (λ (entry : List ℕ × List ℕ). entry.0) entries

-- the entries with this one after them, if none of them names its table
abbrev pub with_entry : List (List ℕ × List ℕ) → List ℕ × List ℕ → List (List ℕ × List ℕ)
with_entry entries entry =
    if list_any (λ name. bytes_eq name entry.0) (tables_of entries) then entries
    else entries ++ entry ∷ []

-- for these items, the first entry that names each table, in the order of first use, and the number
-- of each item's table
pub record HasUses (named : List (List ℕ × List ℕ)) (items : List ItemRef)
    (firsts : List (List ℕ × List ℕ))
    (counted : List ℕ) : Type 0 where
  pub tables : tables_of firsts ≡ first_uses items
  pub entries : AllByRecursion (IsEntryOf named) firsts
  pub numbers : counted ≡ table_numbers (first_uses items) items

-- these tables and one more after them, if it was read
abbrev pub table_after : List Table → Result Table Reason → Result (List Table) Reason
table_after tables (Ok table) = Ok (tables ++ table ∷ [])
table_after tables (Err reason) = Err reason

-- these tables and the one of this name after them, if it was read
abbrev pub IsNext : List (List ℕ × List ℕ) → List ℕ → List Table → Files → Result (List Table) Reason
    → Type 0
IsNext named name tables files = Is (table_after tables (table_in files named name))
