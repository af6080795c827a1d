-- What the tables that are read keep.
use Rattle.std.specs.Prelude.{◌≡◌, [], List}
use Rattle.anyk_model.specs.Table.{Table}
use Rattle.table_store.specs.Values.{with_tables}
use Rattle.csv_tables.specs.declared.reading.Tables.TheInside.{Inside}

-- the tables that were read so far
abbrev pub tables_view : Inside → List Table
tables_view r = r.tables

-- the texts are those of the tables
pub record KnowsTexts (r : Inside) : Type 0 where
  pub known : r.texts ≡ with_tables [] r.tables
