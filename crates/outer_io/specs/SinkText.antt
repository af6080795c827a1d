-- What a sink got of a text.
use Rattle.std.specs.Prelude.{◌≡◌, ◌≤◌, ℕ, List, ◌++◌, Option, Result, OnOk, OnErr}
use Rattle.std.specs.Io.KnownBytes.{Appends}
use Rattle.outer_io.specs.Counts.{Rose}
use Rattle.outer_io.specs.SinkState.{SinkState}

-- the whole begins with the part
abbrev pub IsPrefix : List ℕ → List ℕ → Type 0
IsPrefix part whole = (rest : List ℕ) × (whole ≡ part ++ rest)

-- if the written bytes are known: the sink got a prefix of the text
abbrev pub GotPrefix : Option (List ℕ) → Option (List ℕ) → List ℕ → Type 0
GotPrefix old new text = (part : List ℕ) × Appends old new part × IsPrefix part text

-- The sink got the whole text at `Ok`, and a prefix of it at `Err`. An `Err` is returned only if
-- its faults rose.
pub record Sent {E : Type 0} (old new : SinkState) (text : List ℕ)
    (result : Result (Unit {0}) E) : Type 0 where
  pub whole : OnOk result (Appends old.written new.written text)
  pub prefix : GotPrefix old.written new.written text
  pub cause : OnErr result (Rose old.faults new.faults)
  pub later : old.faults ≤ new.faults
