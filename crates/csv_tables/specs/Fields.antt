-- Fields that are copied into one vector of bytes.
use Rattle.std.specs.Prelude.{ℕ, ◌+◌, List, [], ◌∷◌, length}
use Rattle.csv.specs.Records.{cut_from}
use Rattle.anyk_model.specs.Table.{Fields}
use Rattle.table_store.specs.Fields.{ArePacked}
use Rattle.csv_tables.specs.declared.fields.FieldWriter.TheInside.{Inside}

abbrev pub fields_view : Inside → Fields
fields_view a = cut_from 0 a.ends.items a.bytes.items

abbrev pub IsPacked : Inside → Type 0
IsPacked a = ArePacked a.ends.items a.bytes.items

-- where each of some fields ends, if the first starts at `start` and each other where the one
-- before ends
abbrev pub ends_from : ℕ → Fields → List ℕ
ends_from start [] = []
ends_from start (field ∷ fields) = (start + length field) ∷ ends_from (start + length field) fields
