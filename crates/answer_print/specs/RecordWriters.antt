-- What a writer of records shows and keeps.
use Rattle.std.specs.Prelude.{◌≡◌, ◌≤◌, ◌++◌, ℕ, false, List, drop, length}
use Rattle.csv.specs.Writing.{fields_written, has_written, writer_pending, writer_setup}
use Rattle.answer_print.specs.WrittenRecords.{BegunRecord, IsBetween, any_length, bytes_under}
use Rattle.answer_print.specs.declared.writing.RecordWriter.TheInside.{Inside}

-- the text of the record that was ended last, and the record that was begun after it
pub record RecordView : Type 0 where
  pub text : List ℕ
  pub begun : BegunRecord

abbrev pub record_view : Inside → RecordView
record_view a = record {
  text = drop a.start (bytes_under a.writer);
  begun = record {
    bytes = drop a.start (bytes_under a.writer ++ writer_pending a.writer);
    count = fields_written a.writer;
    shows = has_written a.writer;
  };
}

-- a record begins within what was written, and a writer that has no record open is between two
pub record KeepsRecords (a : Inside) : Type 0 where
  pub setup : writer_setup a.writer ≡ any_length
  pub start : a.start ≤ length (bytes_under a.writer ++ writer_pending a.writer)
  pub between : a.open ≡ false → IsBetween a.writer
