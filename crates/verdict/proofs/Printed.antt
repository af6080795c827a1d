-- How a command ended, from the result of printing the output of its accepted input.
use Rattle.std.proofs.Common.{◌⊎◌, ℕ, List, Option, Some, None, IfSome, Result, Ok, Err, OnOk, IfErr, inl, inr}
use Rattle.std.specs.Io.KnownBytes.{Appends}
use Rattle.outer_io.specs.Files.{Files}
use Rattle.outer_io.specs.declared.fault.PrintFault.{PrintFault}
use Rattle.outer_io.specs.declared.fault.PrintFault.TheVariants as fault
use Rattle.outer_io.specs.Printing.{GotBeginning, IsBroken, IsPrintCause}
use Rattle.refusals.specs.PrintRefusals.{refusal_of, refused}
use Rattle.refusals.specs.RefusalReasons.{reason_of}
use Rattle.outer_io.specs.SinkState.{SinkState}
use Rattle.verdict.specs.AcceptedInput.{AcceptedInput}
use Rattle.verdict.specs.Outcome.{GotAccepted, GotNothing, IsCaused, IsComplete, IsCut, IsCutShort, IsReason, Outside}
use Rattle.verdict.specs.Output.{HasOutput}
use Rattle.verdict.specs.Verdict.{IsVerdict}
use Rattle.verdict.specs.Silence.{IsSilentFor}
use Rattle.verdict.specs.Words.{Asked, Command, a_command, run, plan, session, load, prove, verify}

-- if the files are known, this is the verdict
abbrev pub Accepts : Command → Option Files → AcceptedInput → Type 0
Accepts command told found = IfSome told (λ files. IsVerdict (a_command command) files (Ok found))

-- the whole output was printed
pub printed_complete : (command : Command) (told : Option Files) (old new : Outside) (found : AcceptedInput) (r : Result (Unit {0}) PrintFault) → Accepts command told found
    → OnOk r ((text : List ℕ) × HasOutput command found text × Appends old.output new.output text) → OnOk (refused r) (IsComplete (a_command command) told old new)
printed_complete command None old new found (Ok done) accepts whole = tt
printed_complete command (Some files) old new found (Ok done) accepts (text, is_output, whole) = (found, accepts, text, is_output, whole)
printed_complete command told old new found (Err e) accepts whole = tt

reason_fits : (command : Command) (told : Option Files) (before now : ℕ) (found : AcceptedInput) (a : PrintFault) → Accepts command told found → IsPrintCause before now a
    → IsReason (a_command command) told (reason_of (refusal_of a))
reason_fits command None before now found fault.Write accepts cause = tt
reason_fits command (Some files) before now found fault.Write accepts cause = (found, accepts)
reason_fits command told before now found fault.NoMemory accepts cause = tt

reason_caused : (asked : Asked) (old new : Outside) (a : PrintFault) → IsPrintCause old.write_faults new.write_faults a → IsCaused asked old new (reason_of (refusal_of a))
reason_caused asked old new fault.Write cause = cause
reason_caused asked old new fault.NoMemory cause = tt

-- the sink for the output
abbrev output_of : Outside → SinkState
output_of outside = record { written = outside.output; faults = outside.write_faults }

got_accepted : (command : Command) (told : Option Files) (old new : Outside) (found : AcceptedInput) → Accepts command told found
    → GotBeginning (HasOutput command found) (output_of old) (output_of new) → GotAccepted (a_command command) told old new
got_accepted command None old new found accepts got = tt
got_accepted command (Some files) old new found accepts (text, is_output, prefix) = (found, accepts, text, is_output, prefix)

-- a command that writes once has written nothing when memory ran out
short_cut : (command : Command) (told : Option Files) (old new : Outside) → GotNothing old new ⊎ GotAccepted (a_command command) told old new
    → IsSilentFor command (output_of old) (output_of new) (Err fault.NoMemory) → IsCutShort (a_command command) told old new
short_cut (run words) told old new got silent = got
short_cut (plan words) told old new got silent = silent
short_cut (session script words) told old new got silent = got
short_cut (load number rows) told old new got silent = silent
short_cut (prove words) told old new got silent = silent
short_cut (verify proof words) told old new got silent = got

broken_got : (command : Command) (told : Option Files) (old new : Outside) (found : AcceptedInput) → Accepts command told found
    → IsBroken (HasOutput command found) (output_of old) (output_of new) fault.NoMemory → GotNothing old new ⊎ GotAccepted (a_command command) told old new
broken_got command told old new found accepts (inl nothing) = inl nothing
broken_got command told old new found accepts (inr got) = inr (got_accepted command told old new found accepts got)

reason_cut : (command : Command) (told : Option Files) (old new : Outside) (found : AcceptedInput) (a : PrintFault) → Accepts command told found
    → IsBroken (HasOutput command found) (output_of old) (output_of new) a → IsSilentFor command (output_of old) (output_of new) (Err a)
    → IsCut (a_command command) told old new (reason_of (refusal_of a))
reason_cut command told old new found fault.Write accepts got silent = got_accepted command told old new found accepts got
reason_cut command told old new found fault.NoMemory accepts got silent =
    short_cut command told old new (broken_got command told old new found accepts got) silent

module _ (command : Command) (told : Option Files) (old new : Outside) (found : AcceptedInput) (accepts : Accepts command told found) where
  pub printed_fits : (r : Result (Unit {0}) PrintFault) → IfErr r (IsPrintCause old.write_faults new.write_faults)
      → IfErr (refused r) (λ refusal. IsReason (a_command command) told (reason_of refusal))
  printed_fits (Ok done) cause = tt
  printed_fits (Err e) cause = reason_fits command told old.write_faults new.write_faults found e accepts cause

  pub printed_caused : (r : Result (Unit {0}) PrintFault) → IfErr r (IsPrintCause old.write_faults new.write_faults)
      → IfErr (refused r) (λ refusal. IsCaused (a_command command) old new (reason_of refusal))
  printed_caused (Ok done) cause = tt
  printed_caused (Err e) cause = reason_caused (a_command command) old new e cause

  pub printed_cut : (r : Result (Unit {0}) PrintFault) → IfErr r (IsBroken (HasOutput command found) (output_of old) (output_of new))
      → IsSilentFor command (output_of old) (output_of new) r
      → IfErr (refused r) (λ refusal. IsCut (a_command command) told old new (reason_of refusal))
  printed_cut (Ok done) part silent = tt
  printed_cut (Err e) part silent = reason_cut command told old new found e accepts part silent
