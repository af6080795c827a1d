-- What the tables that were read keep.
use Rattle.std.specs.Prelude.{◌≡◌, ◌≤◌, List, [], ◌∷◌, map, length, None}
use Rattle.std.specs.List.{AllByRecursion}
use Rattle.anyk_model.specs.Table.{Table, flaw_of}
use Rattle.table_store.specs.StoredTables.{IsStored, stored_view}
use Rattle.table_store.specs.Values.{with_tables}
use Rattle.table_store.specs.declared.stored.StoredTable.{StoredTable}
use Rattle.table_store.specs.declared.tables.Tables.TheInside.{Inside}

-- a table whose records have no flaw
abbrev pub IsSound : Table → Type 0
IsSound table = flaw_of (table.names ∷ table.rows) ≡ None

-- the tables that stored ones show
abbrev pub stored_views : List StoredTable → List Table
stored_views stored = map stored_view stored

-- the tables are whole, their numbers are those of all their texts, and no table has a flaw
pub record KeepsTables (stored : List StoredTable) : Type 0 where
  pub whole : AllByRecursion (IsStored (with_tables [] (stored_views stored))) stored
  pub sound : AllByRecursion IsSound (stored_views stored)
  pub few : length stored ≤ 16

-- the tables, in the order in which they were read
abbrev pub tables_view : Inside → List Table
tables_view a = stored_views a.tables.items

abbrev pub IsKept : Inside → Type 0
IsKept a = KeepsTables a.tables.items
