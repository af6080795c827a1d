-- How a command ended, from its input and what answering it gave.
use Rattle.std.proofs.Common.{◌≡◌, ℕ, List, [], ◌∷◌, Option, Some, None, IfSome, Result, Ok, Err, refl, subst}
use Rattle.std.specs.String.{string_bytes}
use Rattle.cmd_words.specs.ArgumentMeaning.{words_view}
use Rattle.command_input.proofs.Ends.{judged_accepts, judged_caused, judged_cut, judged_reason}
use Rattle.command_input.proofs.Judging.{looked_refused, looked_then}
use Rattle.command_input.proofs.Telling.{pure_result}
use Rattle.command_input.specs.FilesRead.{IsTurn}
use Rattle.command_input.specs.Planned.{IsJudged, IsJudgedOn, IsLooked, IsLookedUp, IsPlanned}
use Rattle.command_input.specs.Tasks.{command_of, words_of}
use Rattle.command_input.specs.declared.task.Task.{Task}
use Rattle.command_input.specs.declared.task.Task.TheVariants as task
use Rattle.command_verify.specs.Verifications as check
use Rattle.command_verify.specs.Verifications.{IsShown}
use Rattle.outer_io.proofs.Prints.{printed_some}
use Rattle.outer_io.specs.Files.{Files}
use Rattle.outer_io.specs.SinkState.{SinkState}
use Rattle.refusals.specs.Reason.{Reason}
use Rattle.refusals.specs.RefusalReasons.{reason_of}
use Rattle.refusals.specs.declared.refusal.Refusal.{Refusal}
use Rattle.verdict.proofs.One.{one_loading}
use Rattle.verdict.proofs.Printed.{printed_caused, printed_complete, printed_cut, printed_fits}
use Rattle.verdict.proofs.Staging.{found_within, pure_staged}
use Rattle.verdict.proofs.Steps.{bounded_found, bounded_still, prompt_found, prompt_still}
use Rattle.verdict.specs.AcceptedInput.{AcceptedInput, found_of}
use Rattle.verdict.specs.Bound.{IsBounded, IsPrompt}
use Rattle.verdict.specs.Execution.{IsExecuted}
use Rattle.verdict.specs.Loading.{Loaded}
use Rattle.verdict.specs.MadeFiles.{files_of_call}
use Rattle.verdict.specs.Outcome.{GotNothing, Outside}
use Rattle.verdict.specs.Output.{HasOutput}
use Rattle.verdict.specs.StageResults.{NoTurn, Pure, Shelved}
use Rattle.verdict.specs.Stages.{Then, followed, refused}
use Rattle.verdict.specs.Verdict.{IsLoaded, IsLoadedOn, IsShaped, IsVerdict, IsVerified}
use Rattle.verdict.specs.Words.{Command, IsNamed, Words, a_command, run, plan, session, load, prove, verify, input_files_of}
use Rattle.anyk_top.specs.Answering.{IsAnswered, IsJudgedOver, KeepsSteps, answered, rejected}

-- ---- what is loaded, and the verdict

-- three stages are two, and then one
then_both : {A B C : Type 0} (First : Result A Reason → Type 0) (Second : A → Result B Reason → Type 0) (Third : B → Result C Reason → Type 0)
    (a : A) (r : Result C Reason) → First (Ok a) → Then (Second a) Third r → Then (Then First Second) Third r
then_both First Second Third a _ g (refused h) = refused (followed g h)
then_both First Second Third a _ g (followed s t) = followed (followed g s) t

-- what is loaded, and is then verified or refused, has that verdict
pub looked_verified : (proof : List ℕ) (words : Words) (old new : Shelved) (loaded : Loaded) (r : Result AcceptedInput Reason)
    → IsLookedUp (input_files_of (verify proof words)) old new (Ok loaded) → Pure (Then (IsShaped loaded) IsVerified) r
    → IsJudgedOn (verify proof words) old new r
looked_verified proof words old new loaded r h verified =
    let command = verify proof words in
    record {
      staged = found_within (IsLoadedOn (input_files_of command)) (IsTurn (input_files_of command))
          (λ files. Then (IsShaped loaded) IsVerified) NoTurn (IsVerdict (a_command command)) (IsTurn (input_files_of command))
          old new new loaded r (λ files g v. then_both (IsLoadedOn (input_files_of command) files) IsShaped IsVerified loaded r g v)
          (λ files name g no_turn. absurd no_turn) h.staged (pure_staged (Then (IsShaped loaded) IsVerified) new r verified);
      tells = pure_result (IsNamed (input_files_of command)) (Then (IsShaped loaded) IsVerified) r verified;
    }

-- what is judged over what was loaded has that verdict
judged_over : (made : Task) (old new : Shelved) (loaded : Loaded) (r : Result AcceptedInput Reason)
    → IsLooked (command_of made) old new (Ok loaded) → Pure (IsJudgedOver (command_of made) loaded) r
    → IsJudged (command_of made) old new r
judged_over (task.Run words) old new loaded r h judged = looked_then (task.Run words) old new loaded r tt h judged
judged_over (task.Plan words) old new loaded r h judged = looked_then (task.Plan words) old new loaded r tt h judged
judged_over (task.Session script words) old new loaded r h judged =
    looked_then (task.Session script words) old new loaded r tt h judged
judged_over (task.Load engine made) old new loaded r h judged = looked_then (task.Load engine made) old new loaded r tt h judged
judged_over (task.Prove words) old new loaded r h judged = looked_then (task.Prove words) old new loaded r tt h judged
judged_over (task.Verify proof words) old new loaded r h judged =
    looked_verified (string_bytes proof) (words_of (words_view words)) old new loaded r h judged

looked_loads : (command : Command) (old new : Shelved) (loaded : Loaded) → IsLooked command old new (Ok loaded)
    → IfSome (files_of_call (a_command command) old.files) (λ files. IsLoaded (a_command command) files (Ok loaded))
looked_loads (run words) old new loaded h = h.staged.fits
looked_loads (plan words) old new loaded h = h.staged.fits
looked_loads (session script words) old new loaded h = h.staged.fits
looked_loads (prove words) old new loaded h = h.staged.fits
looked_loads (verify proof words) old new loaded h = h.staged.fits
looked_loads (load number rows) old new loaded h = h.0

same_loaded : {a b : Loaded} → ◌≡◌ {A = Result Loaded Reason} (Ok a) (Ok b) → a ≡ b
same_loaded e = cc

-- what is accepted after it was loaded is what is judged over it
structured_over : (command : Command) (files : Files) (loaded : Loaded) (found : AcceptedInput)
    → IsLoaded (a_command command) files (Ok loaded) → Then (IsLoaded (a_command command) files) IsShaped (Ok found)
    → IsShaped loaded (Ok found)
structured_over command files loaded found loads (followed {a = other} own shaped) =
    let same = same_loaded (one_loading (a_command command) files (Ok other) (Ok loaded) own loads) in
    subst (λ (l : Loaded). IsShaped l (Ok found)) same shaped

verdict_over : (command : Command) (files : Files) (loaded : Loaded) (found : AcceptedInput)
    → IsLoaded (a_command command) files (Ok loaded) → IsVerdict (a_command command) files (Ok found)
    → IsJudgedOver command loaded (Ok found)
verdict_over (run words) files loaded found loads h = structured_over (run words) files loaded found loads h
verdict_over (plan words) files loaded found loads h = structured_over (plan words) files loaded found loads h
verdict_over (session script words) files loaded found loads h =
    structured_over (session script words) files loaded found loads h
verdict_over (load number rows) files loaded found loads h = structured_over (load number rows) files loaded found loads h
verdict_over (prove words) files loaded found loads h = structured_over (prove words) files loaded found loads h
verdict_over (verify proof words) files loaded found loads (followed {a = first} h verified) =
    followed {a = first} (structured_over (verify proof words) files loaded first loads h) verified

-- ---- the two ways to answer

-- a command that plans its queries is judged by their structures
pub planned_over : (command : Command) (loaded : Loaded) (r : Result AcceptedInput Reason) → IsPlanned command
    → Pure (IsShaped loaded) r → Pure (IsJudgedOver command loaded) r
planned_over (run words) loaded r planned h = h
planned_over (plan words) loaded r planned h = h
planned_over (session script words) loaded r planned h = h
planned_over (load number rows) loaded r planned h = h
planned_over (prove words) loaded r planned h = h
planned_over (verify proof words) loaded r planned h = absurd planned

pub over_shaped : (command : Command) (loaded : Loaded) (r : Result AcceptedInput Reason) → IsPlanned command
    → IsJudgedOver command loaded r → IsShaped loaded r
over_shaped (run words) loaded r planned h = h
over_shaped (plan words) loaded r planned h = h
over_shaped (session script words) loaded r planned h = h
over_shaped (load number rows) loaded r planned h = h
over_shaped (prove words) loaded r planned h = h
over_shaped (verify proof words) loaded r planned h = absurd planned

-- a certificate was checked, and nothing is said of the steps of `verify`
pub shown_answered : (proof : List ℕ) (words : Words) (loaded : Loaded) (old new : SinkState) (before now : ℕ)
    (r : Result (Unit {0}) Refusal)
    → IsShown words loaded old new r → IsAnswered (verify proof words) loaded old new before now r
shown_answered proof words loaded old new before now _ (check.rejected {refusal} told nothing later) =
    rejected {refusal = refusal} told nothing later (λ found judged. record { bounded = tt; paced = tt })
shown_answered proof words loaded old new before now _ (check.shown shape printed verified text) =
    let found : AcceptedInput = found_of loaded (shape ∷ []) in
    answered found printed verified (printed_some (HasOutput (verify proof words) found) old new _ printed refl text) tt
    (record { bounded = tt; paced = tt })

-- ---- how the command ends

-- the steps, if they are within the bound of what is judged
bounded_over : (command : Command) (told : Option Files) (loaded : Loaded) (old new : SinkState) (before now : ℕ)
    → IfSome told (λ files. IsLoaded (a_command command) files (Ok loaded))
    → ((found : AcceptedInput) → IsJudgedOver command loaded (Ok found) → KeepsSteps command found old new before now)
    → IsBounded (a_command command) told before now
bounded_over command None loaded old new before now loads steps = tt
bounded_over command (Some files) loaded old new before now loads steps = λ found verdict.
    (steps found (verdict_over command files loaded found loads verdict)).bounded

prompt_over : (command : Command) (told : Option Files) (loaded : Loaded) (old new : SinkState) (before now : ℕ)
    → IfSome told (λ files. IsLoaded (a_command command) files (Ok loaded))
    → ((found : AcceptedInput) → IsJudgedOver command loaded (Ok found) → KeepsSteps command found old new before now)
    → IsPrompt (a_command command) told old.written new.written before now
prompt_over command None loaded old new before now loads steps = tt
prompt_over command (Some files) loaded old new before now loads steps = λ found verdict.
    (steps found (verdict_over command files loaded found loads verdict)).paced

-- the counts of the shelf, as the outside has them
abbrev shelf_of : Option Files → Outside → Shelved
shelf_of files outside =
    record { files = files; misses = outside.misses; faults = outside.read_faults; taken = outside.taken }

-- and those of the sink for the output
abbrev sink_of : Outside → SinkState
sink_of outside = record { written = outside.output; faults = outside.write_faults }

-- the input was refused while it was read, and nothing was written
pub unread_ends : (command : Command) (files files' : Option Files) (old new : Outside) (n : ℕ) (refusal : Refusal)
    → IsLooked command (shelf_of files old) (shelf_of files' new) (Err (reason_of refusal)) → GotNothing old new
    → IsExecuted command (files_of_call (a_command command) files) old new n n (Err refusal)
unread_ends command files files' old new n refusal looked nothing =
    let told : Option Files = files_of_call (a_command command) files in
    let before : Shelved = shelf_of files old in
    let after : Shelved = shelf_of files' new in
    let a : Reason = reason_of refusal in
    let judged = looked_refused command before after a looked in
    record {
      done = tt;
      fits = judged_reason command before after a judged;
      caused = judged_caused command old new files files' a judged;
      cut = judged_cut command before after old new a judged nothing;
      bounded = bounded_still (a_command command) told n;
      prompt = prompt_still (a_command command) told old.output new.output n;
    }

-- the input was read, and the command was answered
pub answered_ends : (made : Task) (files files' : Option Files) (old new : Outside) (before now : ℕ) (loaded : Loaded)
    (r : Result (Unit {0}) Refusal)
    → IsLooked (command_of made) (shelf_of files old) (shelf_of files' new) (Ok loaded)
    → IsAnswered (command_of made) loaded (sink_of old) (sink_of new) before now r
    → IsExecuted (command_of made) (files_of_call (a_command (command_of made)) files) old new before now r
answered_ends made files files' old new before now loaded _ looked (rejected {refusal} told nothing later steps) =
    let command : Command = command_of made in
    let known : Option Files = files_of_call (a_command command) files in
    let first : Shelved = shelf_of files old in
    let last : Shelved = shelf_of files' new in
    let a : Reason = reason_of refusal in
    let judged = judged_over made first last loaded (Err a) looked told in
    let loads = looked_loads command first last loaded looked in
    record {
      done = tt;
      fits = judged_reason command first last a judged;
      caused = judged_caused command old new files files' a judged;
      cut = judged_cut command first last old new a judged nothing;
      bounded = bounded_over command known loaded (sink_of old) (sink_of new) before now loads steps;
      prompt = prompt_over command known loaded (sink_of old) (sink_of new) before now loads steps;
    }
answered_ends made files files' old new before now loaded _ looked (answered found r judged printed silent steps) =
    let command : Command = command_of made in
    let known : Option Files = files_of_call (a_command command) files in
    let first : Shelved = shelf_of files old in
    let last : Shelved = shelf_of files' new in
    let verdict = judged_over made first last loaded (Ok found) looked judged in
    let accepts = judged_accepts command first last found verdict in
    record {
      done = printed_complete command known old new found r accepts printed.whole;
      fits = printed_fits command known old new found accepts r printed.cause;
      caused = printed_caused command known old new found accepts r printed.cause;
      cut = printed_cut command known old new found accepts r printed.part silent;
      bounded = bounded_found command known found before now accepts steps.bounded;
      prompt = prompt_found command known found old.output new.output before now accepts steps.paced;
    }
