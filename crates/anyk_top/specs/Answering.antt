-- Answering a command whose input is loaded.
use Rattle.std.specs.Prelude.{◌≤◌, ℕ, [], Result, Ok, Err}
use Rattle.std.specs.Io.KnownBytes.{Appends}
use Rattle.outer_io.specs.Printing.{PrintedSome}
use Rattle.outer_io.specs.SinkState.{SinkState}
use Rattle.outer_io.specs.declared.fault.PrintFault.{PrintFault}
use Rattle.refusals.specs.PrintRefusals.{refused}
use Rattle.refusals.specs.Reason.{Reason}
use Rattle.refusals.specs.RefusalReasons.{reason_of}
use Rattle.refusals.specs.declared.refusal.Refusal.{Refusal}
use Rattle.verdict.specs.AcceptedInput.{AcceptedInput}
use Rattle.verdict.specs.Bound.{IsPaced, KeepsCommandBound}
use Rattle.verdict.specs.Loading.{Loaded}
use Rattle.verdict.specs.Output.{HasOutput}
use Rattle.verdict.specs.Silence.{IsSilentFor}
use Rattle.verdict.specs.StageResults.{Pure}
use Rattle.verdict.specs.Stages.{Then}
use Rattle.verdict.specs.Verdict.{IsShaped, IsVerified}
use Rattle.verdict.specs.Words.{Command, verify}

-- what the stages after loading give: the structure, and for `verify` then the certificate
abbrev pub IsJudgedOver : Command → Loaded → Result AcceptedInput Reason → Type 0
IsJudgedOver (verify proof words) loaded = Then (IsShaped loaded) IsVerified
IsJudgedOver command loaded = IsShaped loaded

-- the steps are within the bound, and keep pace with the output
pub record KeepsSteps (command : Command) (found : AcceptedInput) (old new : SinkState)
    (before now : ℕ) : Type 0 where
  pub bounded : KeepsCommandBound command found before now
  pub paced : IsPaced command found old.written new.written before now

-- What a command gives over what was loaded: a refusal, before anything is written, or its output,
-- as far as the sink took it and memory sufficed. The steps are within the bound of what is found;
-- so they are if memory ran out for an input that would be accepted.
pub data IsAnswered (command : Command) (loaded : Loaded) (old new : SinkState) (before now : ℕ)
    : Result (Unit {0}) Refusal → Type 0 where
  rejected : {refusal : Refusal}
      → Pure (IsJudgedOver command loaded) (Err (reason_of refusal))
      → Appends old.written new.written [] → old.faults ≤ new.faults
      → ((found : AcceptedInput) → IsJudgedOver command loaded (Ok found)
      → KeepsSteps command found old new before now)
      → IsAnswered command loaded old new before now (Err refusal)
  answered : (found : AcceptedInput) (printed : Result (Unit {0}) PrintFault)
      → IsJudgedOver command loaded (Ok found)
      → PrintedSome (HasOutput command found) old new printed
      → IsSilentFor command old new printed
      → KeepsSteps command found old new before now
      → IsAnswered command loaded old new before now (refused printed)
