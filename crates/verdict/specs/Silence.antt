-- What printing has written if memory ran out.
use Rattle.std.specs.Prelude.{[], Result, Err}
use Rattle.std.specs.Io.KnownBytes.{Appends}
use Rattle.outer_io.specs.SinkState.{SinkState}
use Rattle.outer_io.specs.declared.fault.PrintFault.{PrintFault}
use Rattle.outer_io.specs.declared.fault.PrintFault.TheVariants as fault
use Rattle.verdict.specs.Words.{Command, plan, load, prove}

-- nothing, if memory ran out
abbrev pub IsSilent : SinkState → SinkState → Result (Unit {0}) PrintFault → Type 0
IsSilent old new (Err fault.NoMemory) = Appends old.written new.written []
IsSilent old new result = Unit {0}

-- the same for the commands that write once, at their end
abbrev pub IsSilentFor : Command → SinkState → SinkState → Result (Unit {0}) PrintFault → Type 0
IsSilentFor (plan words) old new result = IsSilent old new result
IsSilentFor (load number rows) old new result = IsSilent old new result
IsSilentFor (prove words) old new result = IsSilent old new result
IsSilentFor command old new result = Unit {0}
