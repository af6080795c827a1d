-- How a call ends: its status, and what it wrote to the sink for errors.
use Rattle.std.specs.Prelude.{◌≡◌, ℕ, List, [], Result, Ok, Err}
use Rattle.std.specs.Io.KnownBytes.{Appends}
use Rattle.outer_io.specs.declared.writing.Unwritten.{Unwritten}
use Rattle.refusals.specs.declared.refusal.Refusal.{Refusal}
use Rattle.refusals.specs.Reason.{line_of, status_of}
use Rattle.refusals.specs.RefusalReasons.{reason_of}
use Rattle.outer_io.specs.SinkText.{Sent}
use Rattle.outer_io.specs.SinkState.{SinkState}

-- the line of the refusal was sent, as far as the sink took it
pub record HasSent (old new : SinkState) (line : List ℕ) : Type 0 where
  pub result : Result (Unit {0}) Unwritten
  pub sent : Sent old new line result

abbrev pub Finished : SinkState → SinkState → Result (Unit {0}) Refusal → ℕ → Type 0
Finished old new (Ok done) status = (status ≡ 0) × Appends old.written new.written []
Finished old new (Err refusal) status = (status ≡ status_of (reason_of refusal))
    × HasSent old new (line_of (reason_of refusal))
