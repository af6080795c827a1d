-- Printing the output of a command once its queries are planned.
use Rattle.std.specs.Prelude.{ℕ, Result}
use Rattle.outer_io.specs.Printing.{PrintedSome}
use Rattle.outer_io.specs.SinkState.{SinkState}
use Rattle.outer_io.specs.declared.fault.PrintFault.{PrintFault}
use Rattle.verdict.specs.AcceptedInput.{AcceptedInput}
use Rattle.verdict.specs.Bound.{IsPaced, KeepsCommandBound}
use Rattle.verdict.specs.Output.{HasOutput}
use Rattle.verdict.specs.Silence.{IsSilentFor}
use Rattle.verdict.specs.Words.{Command}

-- The output of the command is printed over what is found, and nothing is if memory ran out and the
-- command writes once. If the plans are prepared within the steps that preparation may take, the
-- steps are within the bound, and keep pace with the output.
pub record PrintsOutput (command : Command) (found : AcceptedInput) (IsReady : ℕ → Type 0)
    (old new : SinkState) (now : ℕ) (result : Result (Unit {0}) PrintFault) : Type 0 where
  pub printed : PrintedSome (HasOutput command found) old new result
  pub silent : IsSilentFor command old new result
  pub bounded : (before : ℕ) → IsReady before → KeepsCommandBound command found before now
  pub paced : (before : ℕ) → IsReady before
      → IsPaced command found old.written new.written before now
