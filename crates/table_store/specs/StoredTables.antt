-- What a stored table shows.
use Rattle.std.specs.Prelude.{◌≡◌, ℕ, suc, zero, ◌*◌, List, [], ◌∷◌, length, take, drop}
use Rattle.anyk_model.specs.Table.{Table}
use Rattle.table_store.specs.Values.{StandsFor, lists_of}
use Rattle.table_store.specs.declared.stored.StoredTable.{StoredTable}

-- a list cut into this many rows of one width
abbrev pub cut_rows : {A : Type 0} → ℕ → ℕ → List A → List (List A)
cut_rows width zero xs = []
cut_rows width (suc count) xs = take width xs ∷ cut_rows width count (drop width xs)

-- the table that a stored one shows
abbrev pub stored_view : StoredTable → Table
stored_view s = record {
  names = lists_of s.names.items;
  rows = cut_rows (length s.names.items) s.rows.count s.rows.fields;
}

-- its numbers stand for its fields, and there is a field for each column of each row
pub record IsStored (texts : List (List ℕ)) (s : StoredTable) : Type 0 where
  pub stand : StandsFor texts s.rows.cells.items s.rows.fields
  pub size : length s.rows.fields ≡ s.rows.count * length s.names.items
