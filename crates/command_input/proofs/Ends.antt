-- How a command ended, from the result of reading and planning its input.
use Rattle.std.proofs.Common.{◌≡◌, [], ℕ, List, Option, Some, None, IfSome, Result, Ok, Err, refl, sym, subst}
use Rattle.outer_io.specs.Files.{Files}
use Rattle.query_select.specs.declared.select.Select.{Select}
use Rattle.rankings.specs.Order.{IsMember}
use Rattle.refusals.specs.Reason as reason
use Rattle.refusals.specs.Reason.{Reason}
use Rattle.command_input.specs.FilesRead.{IsTurn as IsLoadTurn}
use Rattle.verdict.specs.AcceptedInput.{AcceptedInput}
use Rattle.verdict.specs.Loading.{all_items, files_read, first_uses, unknown_table}
use Rattle.verdict.specs.MadeFiles.{files_of_call}
use Rattle.verdict.specs.Outcome.{GotNothing, IsCaused, IsCut, IsReason, IsTurn, IsTurnOf, Outside, aside_turn, query_turn, table_turn}
use Rattle.verdict.specs.StageResults.{IsStageOf, Pure, Shelved, first_turn, second_turn}
use Rattle.session_script.specs.Script.{unless}
use Rattle.verdict.specs.Verdict.{IsVerdict}
use Rattle.verdict.specs.Words.{Asked, Command, IsNamed, IsNamedBy, InputFiles, a_command, run, plan, session, load, prove, verify, input_files_of}
use Rattle.verdict.proofs.Complete.{silent_cut}
use Rattle.verdict.proofs.Printed.{Accepts}
use Rattle.command_input.specs.Planned.{IsJudged, IsJudgedOn}

unless_ok : {A : Type 0} (o : Option Reason) (a k : A) → Ok k ≡ unless o a → (o ≡ None) × (k ≡ a)
unless_ok None a k e = (refl, cc)
unless_ok (Some reason) a k e = cc

-- a file that a stage reads is one that is read for this input
turn_of : (sought : InputFiles) (files : Files) (name : List ℕ) → IsLoadTurn sought files name → IsTurnOf sought files name
turn_of sought files name (first_turn is) = query_turn is
turn_of sought files name (second_turn read (first_turn no_turn)) = absurd no_turn
turn_of sought files name (second_turn read (second_turn {a = selects} parsed (first_turn is))) = aside_turn selects (sym read) parsed is
turn_of sought files name (second_turn read (second_turn parsed (second_turn said (first_turn no_turn)))) = absurd no_turn
turn_of sought files name (second_turn read (second_turn {a = selects} parsed (second_turn said (second_turn {a = known} all_known (first_turn member))))) =
    let h = unless_ok (unknown_table sought.named (all_items selects)) selects known all_known in
    let P : List Select → Type 0 = λ s. IsMember name (files_read files sought.named (first_uses (all_items s))) in
    table_turn selects (sym read) parsed (sym said) h.0 (subst P h.1 member)
turn_of sought files name (second_turn read (second_turn parsed (second_turn said (second_turn known (second_turn tables no_turn))))) = absurd no_turn

turn_told : (sought : InputFiles) (told : Option Files) (name : List ℕ) → IfSome told (λ files. IsLoadTurn sought files name) → IfSome told (λ files. IsTurnOf sought files name)
turn_told sought None name h = tt
turn_told sought (Some files) name h = turn_of sought files name h

pub judged_accepts : (command : Command) (old new : Shelved) (found : AcceptedInput) → IsJudged command old new (Ok found)
    → Accepts command (files_of_call (a_command command) old.files) found
judged_accepts (run words) old new found h = h.staged.fits
judged_accepts (plan words) old new found h = h.staged.fits
judged_accepts (session script words) old new found h = h.staged.fits
judged_accepts (prove words) old new found h = h.staged.fits
judged_accepts (verify proof words) old new found h = h.staged.fits
judged_accepts (load number rows) old new found h = h.0

-- a refusal that does not speak of the outside is the verdict
fits_reason : (asked : Asked) (G : Files → Result AcceptedInput Reason → Type 0) (T : Files → List ℕ → Type 0) (told : Option Files) (a : Reason)
    → (IfSome told (λ files. G files (Err a)) → IfSome told (λ files. IsVerdict asked files (Err a)))
    → ((name : List ℕ) → IfSome told (λ files. T files name) → IsTurn asked told name) → IsStageOf G T told (Err a) → IsReason asked told a
fits_reason asked G T told reason.Usage gives turns h = absurd h
fits_reason asked G T told (reason.ReadFault name) gives turns h = turns name h
fits_reason asked G T told reason.WriteFault gives turns h = absurd h
fits_reason asked G T told reason.NoMemory gives turns h = tt
fits_reason asked G T told a gives turns h = gives h

pure_reason : (asked : Asked) (G : Result AcceptedInput Reason → Type 0) (told : Option Files) (a : Reason)
    → (G (Err a) → IfSome told (λ files. IsVerdict asked files (Err a))) → Pure G (Err a) → IsReason asked told a
pure_reason asked G told reason.Usage gives h = absurd h
pure_reason asked G told (reason.NoFile name) gives h = absurd h
pure_reason asked G told (reason.ReadFault name) gives h = absurd h
pure_reason asked G told (reason.TooLarge name) gives h = absurd h
pure_reason asked G told reason.WriteFault gives h = absurd h
pure_reason asked G told reason.NoMemory gives h = tt
pure_reason asked G told a gives h = gives h

staged_reason : (command : Command) (told : Option Files) (a : Reason)
    → ((name : List ℕ) → IfSome told (λ files. IsTurnOf (input_files_of command) files name) → IsTurn (a_command command) told name)
    → IsStageOf (IsVerdict (a_command command)) (IsLoadTurn (input_files_of command)) told (Err a) → IsReason (a_command command) told a
staged_reason command told a turns h =
    fits_reason (a_command command) (IsVerdict (a_command command)) (IsLoadTurn (input_files_of command)) told a (λ g. g)
    (λ name turn. turns name (turn_told (input_files_of command) told name turn)) h

pub judged_reason : (command : Command) (old new : Shelved) (a : Reason) → IsJudged command old new (Err a)
    → IsReason (a_command command) (files_of_call (a_command command) old.files) a
judged_reason (run words) old new a h = staged_reason (run words) old.files a (λ name turn. turn) h.staged.fits
judged_reason (plan words) old new a h = staged_reason (plan words) old.files a (λ name turn. turn) h.staged.fits
judged_reason (session script words) old new a h = staged_reason (session script words) old.files a (λ name turn. turn) h.staged.fits
judged_reason (prove words) old new a h = staged_reason (prove words) old.files a (λ name turn. turn) h.staged.fits
judged_reason (verify proof words) old new a h = staged_reason (verify proof words) old.files a (λ name turn. turn) h.staged.fits
judged_reason (load number rows) old new a h =
    pure_reason (a_command (load number rows)) (IsVerdict (a_command (load number rows)) []) (Some []) a (λ g. g) h.0

-- the counts of the shelf, as the outside has them
abbrev shelf_of : Option Files → Outside → Shelved
shelf_of files outside =
    record { files = files; misses = outside.misses; faults = outside.read_faults; taken = outside.taken }

judged_on_caused : (command : Command) (old new : Outside) (files files' : Option Files) (a : Reason)
    → ((name : List ℕ) → IsNamed (input_files_of command) name → IsNamedBy (a_command command) name)
    → IsJudgedOn command (shelf_of files old) (shelf_of files' new) (Err a) → IsCaused (a_command command) old new a
judged_on_caused command old new files files' reason.WriteFault named h = absurd h.staged.fits
judged_on_caused command old new files files' (reason.NoFile name) named h = (h.staged.caused, named name h.tells)
judged_on_caused command old new files files' (reason.ReadFault name) named h = (h.staged.caused, named name h.tells)
judged_on_caused command old new files files' (reason.TooLarge name) named h = (h.staged.caused, named name h.tells)
judged_on_caused command old new files files' a named h = tt

pure_caused : (asked : Asked) (G : Result AcceptedInput Reason → Type 0) (old new : Outside) (a : Reason) → Pure G (Err a) → IsCaused asked old new a
pure_caused asked G old new reason.WriteFault h = absurd h
pure_caused asked G old new (reason.NoFile name) h = absurd h
pure_caused asked G old new (reason.ReadFault name) h = absurd h
pure_caused asked G old new (reason.TooLarge name) h = absurd h
pure_caused asked G old new a h = tt

pub judged_caused : (command : Command) (old new : Outside) (files files' : Option Files) (a : Reason) → IsJudged command (shelf_of files old) (shelf_of files' new) (Err a)
    → IsCaused (a_command command) old new a
judged_caused (run words) old new files files' a h = judged_on_caused (run words) old new files files' a (λ name named. named) h
judged_caused (plan words) old new files files' a h = judged_on_caused (plan words) old new files files' a (λ name named. named) h
judged_caused (session script words) old new files files' a h = judged_on_caused (session script words) old new files files' a (λ name named. named) h
judged_caused (prove words) old new files files' a h = judged_on_caused (prove words) old new files files' a (λ name named. named) h
judged_caused (verify proof words) old new files files' a h = judged_on_caused (verify proof words) old new files files' a (λ name named. named) h
judged_caused (load number rows) old new files files' a h =
    pure_caused (a_command (load number rows)) (IsVerdict (a_command (load number rows)) []) old new a h.0

-- nothing was written
fits_cut : (asked : Asked) (G : Files → Result AcceptedInput Reason → Type 0) (T : Files → List ℕ → Type 0) (told : Option Files) (old new : Outside) (a : Reason)
    → IsStageOf G T told (Err a) → GotNothing old new → IsCut asked told old new a
fits_cut asked G T told old new reason.WriteFault h nothing = absurd h
fits_cut asked G T told old new reason.NoMemory h nothing = silent_cut asked told old new nothing
fits_cut asked G T told old new a h nothing = nothing

pure_cut : (asked : Asked) (G : Result AcceptedInput Reason → Type 0) (told : Option Files) (old new : Outside) (a : Reason) → Pure G (Err a) → GotNothing old new → IsCut asked told old new a
pure_cut asked G told old new reason.WriteFault h nothing = absurd h
pure_cut asked G told old new reason.NoMemory h nothing = silent_cut asked told old new nothing
pure_cut asked G told old new a h nothing = nothing

pub judged_cut : (command : Command) (s t : Shelved) (old new : Outside) (a : Reason) → IsJudged command s t (Err a) → GotNothing old new
    → IsCut (a_command command) (files_of_call (a_command command) s.files) old new a
judged_cut (run words) s t old new a h =
    fits_cut (a_command (run words)) (IsVerdict (a_command (run words))) (IsLoadTurn (input_files_of (run words))) s.files old new a h.staged.fits
judged_cut (plan words) s t old new a h =
    fits_cut (a_command (plan words)) (IsVerdict (a_command (plan words))) (IsLoadTurn (input_files_of (plan words))) s.files old new a h.staged.fits
judged_cut (session script words) s t old new a h =
    fits_cut (a_command (session script words)) (IsVerdict (a_command (session script words))) (IsLoadTurn (input_files_of (session script words))) s.files old new a h.staged.fits
judged_cut (prove words) s t old new a h =
    fits_cut (a_command (prove words)) (IsVerdict (a_command (prove words))) (IsLoadTurn (input_files_of (prove words))) s.files old new a h.staged.fits
judged_cut (verify proof words) s t old new a h =
    fits_cut (a_command (verify proof words)) (IsVerdict (a_command (verify proof words))) (IsLoadTurn (input_files_of (verify proof words))) s.files old new a h.staged.fits
judged_cut (load number rows) s t old new a h =
    pure_cut (a_command (load number rows)) (IsVerdict (a_command (load number rows)) []) (Some []) old new a h.0
