-- Fields in one vector of bytes.
use Rattle.std.specs.Prelude.{◌≡◌, ℕ, List, length}
use Rattle.csv.specs.Records.{Rising, cut_from, last_end}
use Rattle.anyk_model.specs.Table.{Fields}
use Rattle.table_store.specs.declared.fields.FieldList.TheInside.{Inside}

abbrev pub fields_view : Inside → Fields
fields_view a = cut_from 0 a.ends.items a.bytes.items

-- the ends rise, and the last of them is that of the bytes
pub record ArePacked (ends bytes : List ℕ) : Type 0 where
  pub rising : Rising 0 ends (length bytes)
  pub whole : last_end 0 ends ≡ length bytes

abbrev pub IsPacked : Inside → Type 0
IsPacked a = ArePacked a.ends.items a.bytes.items
