-- What a table shows whose fields have no numbers yet.
use Rattle.std.specs.Prelude.{◌≡◌, ◌*◌, [], ◌∷◌, ◌++◌, length}
use Rattle.anyk_model.specs.Table.{Fields, Table}
use Rattle.table_store.specs.StoredTables.{cut_rows}
use Rattle.table_store.specs.Values.{lists_of}
use Rattle.csv_tables.specs.declared.plain_table.PlainTable.TheInside.{Inside}

abbrev pub table_view : Inside → Table
table_view t = record {
  names = lists_of t.names.items;
  rows = cut_rows (length t.names.items) t.count t.fields;
}

-- there is a field for each column of each row
pub record IsWhole (t : Inside) : Type 0 where
  pub size : length t.fields ≡ t.count * length t.names.items

-- a table with one more row
abbrev pub with_row : Table → Fields → Table
with_row table row = record { names = table.names; rows = table.rows ++ row ∷ [] }
