-- From what is loaded, and its structure, to the verdict.
use Rattle.std.proofs.Common.{◌≡◌, ◌<◌, Result, Ok, Err, length, arith, refl, subst}
use Rattle.cmd_words.specs.declared.command.Words.{Words as WordsRead}
use Rattle.std.proofs.Common.{sym}
use Rattle.outer_io.specs.Files.{Files}
use Rattle.command_input.specs.Input.{InputView}
use Rattle.command_input.specs.FilesRead.{IsTurn}
use Rattle.refusals.specs.Reason.{Reason}
use Rattle.verdict.specs.AcceptedInput.{AcceptedInput}
use Rattle.verdict.specs.Loading.{Loaded}
use Rattle.verdict.specs.MadeFiles.{made_files}
use Rattle.verdict.specs.StageResults.{NoTurn, Pure, Shelved}
use Rattle.verdict.specs.Stages.{refused, followed}
use Rattle.verdict.specs.Verdict.{IsLoadedOn, IsShaped, IsStructured, IsVerdict}
use Rattle.verdict.specs.Words.{Command, IsNamed, a_command, run, plan, session, load, prove, verify, input_files_of}
use Rattle.verdict.proofs.Staging.{found_within, pure_found, pure_refused, pure_staged, refusal_within}
use Rattle.command_input.specs.Tasks.{command_of}
use Rattle.command_input.proofs.Telling.{pure_result}
use Rattle.command_input.specs.declared.task.Task.{Task}
use Rattle.command_input.specs.declared.task.Task.TheVariants as task
use Rattle.command_input.specs.Planned.{HasOne, IsJudged, IsJudgedOn, IsLooked, IsLookedUp, IsPlanned, IsUnnamed}

-- a refusal while the input is read is that of the verdict
up_refused : (command : Command) (old new : Shelved) (a : Reason)
    → ((files : Files) → IsLoadedOn (input_files_of command) files (Err a) → IsVerdict (a_command command) files (Err a))
    → IsLookedUp (input_files_of command) old new (Err a) → IsJudgedOn command old new (Err a)
up_refused command old new a gives h =
    record {
      staged = refusal_within (IsLoadedOn (input_files_of command)) (IsTurn (input_files_of command)) (IsVerdict (a_command command))
          (IsTurn (input_files_of command)) old new a
          gives (λ files name turn. turn) h.staged;
      tells = h.tells;
    }

pub looked_refused : (command : Command) (old new : Shelved) (a : Reason) → IsLooked command old new (Err a)
    → IsJudged command old new (Err a)
looked_refused (run words) old new a h = up_refused (run words) old new a (λ files g. refused g) h
looked_refused (plan words) old new a h = up_refused (plan words) old new a (λ files g. refused g) h
looked_refused (session script words) old new a h = up_refused (session script words) old new a (λ files g. refused g) h
looked_refused (prove words) old new a h = up_refused (prove words) old new a (λ files g. refused g) h
looked_refused (verify proof words) old new a h = up_refused (verify proof words) old new a (λ files g. refused (refused g)) h
looked_refused (load number rows) old new a h =
    (pure_refused (IsLoadedOn (input_files_of (load number rows)) (made_files number rows)) IsShaped a h.0, h.1)

-- what is loaded and then has a structure has that verdict
up_then : (command : Command) (old new : Shelved) (loaded : Loaded) (r : Result AcceptedInput Reason)
    → ((files : Files) → IsLoadedOn (input_files_of command) files (Ok loaded) → IsShaped loaded r
    → IsVerdict (a_command command) files r)
    → IsLookedUp (input_files_of command) old new (Ok loaded) → Pure (IsShaped loaded) r → IsJudgedOn command old new r
up_then command old new loaded r gives h shaped =
    record {
      staged = found_within (IsLoadedOn (input_files_of command)) (IsTurn (input_files_of command)) (λ files. IsShaped loaded) NoTurn
          (IsVerdict (a_command command)) (IsTurn (input_files_of command)) old new new loaded r
          gives (λ files name g no_turn. absurd no_turn) h.staged (pure_staged (IsShaped loaded) new r shaped);
      tells = pure_result (IsNamed (input_files_of command)) (IsShaped loaded) r shaped;
    }

pub looked_then : (made : Task) (old new : Shelved) (loaded : Loaded) (r : Result AcceptedInput Reason)
    → IsPlanned (command_of made) → IsLooked (command_of made) old new (Ok loaded) → Pure (IsShaped loaded) r → IsJudged (command_of made) old new r
looked_then (task.Run words) old new loaded r planned h shaped =
    up_then (command_of (task.Run words)) old new loaded r (λ files g s. followed g s) h shaped
looked_then (task.Plan words) old new loaded r planned h shaped =
    up_then (command_of (task.Plan words)) old new loaded r (λ files g s. followed g s) h shaped
looked_then (task.Session script words) old new loaded r planned h shaped =
    up_then (command_of (task.Session script words)) old new loaded r (λ files g s. followed g s) h shaped
looked_then (task.Load engine made) old new loaded r planned h shaped =
    (pure_found (IsLoadedOn (input_files_of (load made.number made.rows)) (made_files made.number made.rows)) IsShaped loaded r h.0 shaped, h.1)
looked_then (task.Prove words) old new loaded r planned h shaped =
    up_then (command_of (task.Prove words)) old new loaded r (λ files g s. followed g s) h shaped
looked_then (task.Verify proof words) old new loaded r planned h shaped = absurd planned

-- what is found is told once
pub same_found : {a b : AcceptedInput} → ◌≡◌ {A = Result AcceptedInput Reason} (Ok a) (Ok b) → a ≡ b
same_found e = cc

-- what is accepted was structured
pub verdict_structured : (command : Command) (files : Files) (found : AcceptedInput) → IsVerdict (a_command command) files (Ok found)
    → IsStructured (a_command command) files (Ok found)
verdict_structured (run words) files found h = h
verdict_structured (plan words) files found h = h
verdict_structured (session script words) files found h = h
verdict_structured (load number rows) files found h = h
verdict_structured (prove words) files found h = h
verdict_structured (verify proof words) files found (followed {a = other} h (followed valid same)) =
    subst (λ (f : AcceptedInput). IsStructured (a_command (verify proof words)) files (Ok f)) (sym (same_found same)) h

-- what is known of the item whose rows are asked for
pub unnamed_of : (command : Command) (input : InputView) → HasOne command input → IsUnnamed command input.best
unnamed_of (run words) input one = tt
unnamed_of (plan words) input one = tt
unnamed_of (session script words) input one = tt
unnamed_of (load number rows) input one = tt
unnamed_of (prove words) input one = one.1
unnamed_of (verify proof words) input one = one.1

-- a command that is not `verify` plans its queries
pub planned_of : (made : Task) → ((proof : _) (words : WordsRead) → made ≡ task.Verify proof words → ⊥) → IsPlanned (command_of made)
planned_of (task.Run words) other = tt
planned_of (task.Plan words) other = tt
planned_of (task.Session script words) other = tt
planned_of (task.Load engine made) other = tt
planned_of (task.Prove words) other = tt
planned_of (task.Verify proof words) other = other proof words refl

-- several queries are only those of `run`
pub never_several : {A : Type 0} (made : Task) (input : InputView) → ((words : WordsRead) → made ≡ task.Run words → ⊥)
    → HasOne (command_of made) input → 1 < length input.queries → A
never_several (task.Run words) input other one more = absurd (other words refl)
never_several (task.Plan words) input other one more = absurd (omega (arith, one, more))
never_several (task.Session script words) input other one more = absurd (omega (arith, one, more))
never_several (task.Load engine made) input other one more = absurd (omega (arith, one, more))
never_several (task.Prove words) input other one more = let only = one.0 in absurd (omega (arith, only, more))
never_several (task.Verify proof words) input other one more = let only = one.0 in absurd (omega (arith, only, more))
