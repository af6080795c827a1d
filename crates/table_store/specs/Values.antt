-- The numbers of the fields of tables.
use Rattle.std.specs.Prelude.{◌≡◌, ℕ, ◌+◌, ◌<◌, ◌^◌, ◌&&◌, nat_lt, if◌then◌else◌, List, [], ◌∷◌, ◌++◌, map, length, get_or, Option, Some, None, is_some, unwrap_or, decimal}
use Rattle.std.specs.Prelude.{Vec}
use Rattle.std.specs.Global.{Global}
use Rattle.std.specs.List.{AllZip, list_any, position_or_len}
use Rattle.std.specs.Str.{bytes_eq}
use Rattle.std.specs.Str.Parse.{digits_value}
use Rattle.anyk_model.specs.Table.{Fields, Table}

-- the list in each of some vectors
abbrev pub lists_of : List (Vec ℕ Global) → List (List ℕ)
lists_of keys = map (λ (v : Vec ℕ Global). v.items) keys

-- each number below this one belongs to the field that writes it, and each from it on belongs to a
-- text
abbrev pub first_text : ℕ
first_text = 2 ^ 31

-- the number below `first_text` that a field writes as a decimal, without a sign and without
-- leading zeros
unfoldable pub own_number : List ℕ → Option ℕ
own_number field =
    if nat_lt (digits_value 10 field) first_text && bytes_eq field (decimal (digits_value 10 field))
    then Some (digits_value 10 field) else None

-- the texts with one more, unless it is one of them
abbrev pub with_text : List (List ℕ) → List ℕ → List (List ℕ)
with_text texts text = if list_any (bytes_eq text) texts then texts else texts ++ text ∷ []

-- the texts with a field among them, unless the field is its own number
abbrev pub with_field : List (List ℕ) → List ℕ → List (List ℕ)
with_field texts field = if is_some (own_number field) then texts else with_text texts field

-- the same for each field of a row, of rows and of tables
abbrev pub with_fields : List (List ℕ) → Fields → List (List ℕ)
with_fields texts [] = texts
with_fields texts (field ∷ fields) = with_fields (with_field texts field) fields

abbrev pub with_rows : List (List ℕ) → List Fields → List (List ℕ)
with_rows texts [] = texts
with_rows texts (row ∷ rows) = with_rows (with_fields texts row) rows

abbrev pub with_tables : List (List ℕ) → List Table → List (List ℕ)
with_tables texts [] = texts
with_tables texts (table ∷ tables) = with_tables (with_rows texts table.rows) tables

-- the number of a field: its own, or else the one of its place among the texts
abbrev pub number_in : List (List ℕ) → List ℕ → ℕ
number_in texts field = unwrap_or (own_number field)
    (first_text + position_or_len (bytes_eq field) texts)

-- the number of a field among those of tables, whose texts are in the order in which they first
-- occur
abbrev pub number_of : List Table → List ℕ → ℕ
number_of tables field = number_in (with_tables [] tables) field

-- the text at a place
abbrev pub text_at : List (List ℕ) → ℕ → List ℕ
text_at texts n = get_or texts n []

-- n is the number of a place among the texts, and the field is there
pub record IsPlaced (texts : List (List ℕ)) (field : List ℕ) (n : ℕ) : Type 0 where
  pub place : ℕ
  pub number : n ≡ first_text + place
  pub within : place < length texts
  pub stands : text_at texts place ≡ field

-- n is the field's own number, or else that of its place
abbrev pub HasNumber : List (List ℕ) → Option ℕ → List ℕ → ℕ → Type 0
HasNumber texts (Some own) field n = n ≡ own
HasNumber texts None field n = IsPlaced texts field n

abbrev pub IsNumber : List (List ℕ) → List ℕ → ℕ → Type 0
IsNumber texts field n = HasNumber texts (own_number field) field n

-- these numbers stand for these fields
pub record StandsFor (texts : List (List ℕ)) (numbers : List ℕ) (fields : Fields) : Type 0 where
  pub each : AllZip (λ n field. IsNumber texts field n) numbers fields

-- new texts are added after the old ones
abbrev pub Extends : List (List ℕ) → List (List ℕ) → Type 0
Extends old new = (more : List (List ℕ)) × (new ≡ old ++ more)
