-- What is known and counted of a sink.
use Rattle.std.specs.Prelude.{ℕ, List, Option}
use Rattle.outer_io.specs.declared.sink.Sink.{Ghosts}

-- what is known and counted of a sink, before a call or after it
pub record SinkState : Type 0 where
  pub written : Option (List ℕ)
  pub faults : ℕ

-- this of a sink
abbrev pub state_of : {S : Type 0} → Ghosts S → S → SinkState
state_of counts sink = record { written = counts.written sink; faults = counts.faults sink }
