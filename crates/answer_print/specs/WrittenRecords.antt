-- What a writer of records into a vector has written.
use Rattle.std.specs.Prelude.{◌≡◌, ◌==◌, ◌&&◌, ◌||◌, ◌^◌, ◌-◌, ℕ, Bool, true, false, not, min, length, List, [], Vec}
use Rattle.std.specs.Global.{Global}
use Rattle.csv.specs.Writing.{default_writer, fields_written, has_written, is_blank, row_body, with_flexible, writer_pending, writer_setup, writer_under}
use Rattle.csv.specs.declared.writer.Writer.{Writer}
use Rattle.csv.specs.declared.writer.WriterBuilder.{WriterBuilder}

abbrev pub VecWriter : Type 0
VecWriter = Writer (Vec ℕ Global)

-- the bytes of the vector underneath
abbrev pub bytes_under : VecWriter → List ℕ
bytes_under w = (writer_under w).items

-- the settings of a writer whose records may differ in length
abbrev pub any_length : WriterBuilder
any_length = with_flexible default_writer true

-- it is between two records, and all that it wrote lies in the vector
pub record IsBetween (w : VecWriter) : Type 0 where
  pub setup : writer_setup w ≡ any_length
  pub pending : writer_pending w ≡ []
  pub fields : fields_written w ≡ 0
  pub wrote : has_written w ≡ false

-- a record that was begun: its bytes so far, the number of its fields, and whether a field has shown
-- a byte
pub record BegunRecord : Type 0 where
  pub bytes : List ℕ
  pub count : ℕ
  pub shows : Bool

-- it has these fields so far
pub record HasFields (fields : List (List ℕ)) (r : BegunRecord) : Type 0 where
  pub bytes : r.bytes ≡ row_body any_length fields
  pub count : r.count ≡ min (length fields) (2 ^ 64 - 1)
  pub blank : is_blank any_length fields ≡ (not r.shows && ((length fields == 0) || (length fields == 1)))
