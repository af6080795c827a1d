-- What the execution of a command has done, before the line of a refusal is written.
use Rattle.std.specs.Prelude.{ℕ, Option, Result, OnOk, IfErr}
use Rattle.outer_io.specs.Files.{Files}
use Rattle.refusals.specs.declared.refusal.Refusal.{Refusal}
use Rattle.refusals.specs.RefusalReasons.{reason_of}
use Rattle.verdict.specs.Bound.{IsBounded, IsPrompt}
use Rattle.verdict.specs.Outcome.{IsCaused, IsComplete, IsCut, IsReason, Outside}
use Rattle.verdict.specs.Words.{Command, a_command}

-- The output is complete at `Ok`. At `Err` the refusal is told for its reason, and the output got
-- what that reason allows. The steps, counted before and now, are within their bound and keep pace
-- with the output.
pub record IsExecuted (command : Command) (told : Option Files) (old new : Outside)
    (before now : ℕ) (result : Result (Unit {0}) Refusal) : Type 0 where
  pub done : OnOk result (IsComplete (a_command command) told old new)
  pub fits : IfErr result (λ refusal. IsReason (a_command command) told (reason_of refusal))
  pub caused : IfErr result (λ refusal. IsCaused (a_command command) old new (reason_of refusal))
  pub cut : IfErr result (λ refusal. IsCut (a_command command) told old new (reason_of refusal))
  pub bounded : IsBounded (a_command command) told before now
  pub prompt : IsPrompt (a_command command) told old.output new.output before now
