-- What reading the input of a command and planning its query give.
use Rattle.std.specs.Prelude.{◌≡◌, ℕ, Bool, List, [], None, Option, Result, IfErr, length}
use Rattle.command_input.specs.Input.{InputView}
use Rattle.command_input.specs.FilesRead.{IsTurn}
use Rattle.refusals.specs.Reason.{Reason}
use Rattle.verdict.specs.AcceptedInput.{AcceptedInput}
use Rattle.verdict.specs.Loading.{Loaded}
use Rattle.verdict.specs.MadeFiles.{made_files}
use Rattle.verdict.specs.StageResults.{Pure, Shelved, Staged, TellsOne}
use Rattle.verdict.specs.Verdict.{IsLoadedOn, IsVerdict}
use Rattle.verdict.specs.Words.{SideFile, Command, IsNamed, InputFiles, Words, a_command, run, plan, session, load, prove, verify, input_files_of}

-- what words name, with several branches if they are allowed, and with this script or certificate
-- and this alias
abbrev pub sought_in : Words → Bool → SideFile → Option (List ℕ) → InputFiles
sought_in words several aside best_of =
    record {
      query = words.query;
      several = several;
      aside = aside;
      named = words.tables;
      best_of = best_of;
    }

-- the input that the files of the shelf have, or a cause on the way, which tells a file that is
-- named
pub record IsLookedUp (sought : InputFiles) (old new : Shelved)
    (result : Result Loaded Reason) : Type 0 where
  pub staged : Staged (IsLoadedOn sought) (IsTurn sought) old new result
  pub tells : IfErr result (TellsOne (IsNamed sought))

-- `load` reads the files that it makes, and leaves the shelf as it was
abbrev pub IsLooked : Command → Shelved → Shelved → Result Loaded Reason → Type 0
IsLooked (run words) old new result = IsLookedUp (input_files_of (run words)) old new result
IsLooked (plan words) old new result = IsLookedUp (input_files_of (plan words)) old new result
IsLooked (session script words) old new result = IsLookedUp
    (input_files_of (session script words)) old new result
IsLooked (prove words) old new result = IsLookedUp (input_files_of (prove words)) old new result
IsLooked (verify proof words) old new result = IsLookedUp
    (input_files_of (verify proof words)) old new result
IsLooked (load number rows) old new result =
    Pure (IsLoadedOn (input_files_of (load number rows)) (made_files number rows)) result × (new ≡ old)

-- it plans its queries: all commands but `verify` do
abbrev pub IsPlanned : Command → Type 0
IsPlanned (verify proof words) = ⊥
IsPlanned command = Unit {0}

-- There is one query, unless the command is `run`. `prove` and `verify` have no item whose rows are
-- asked for.
abbrev pub HasOne : Command → InputView → Type 0
HasOne (run words) input = Unit {0}
HasOne (plan words) input = length input.queries ≡ 1
HasOne (session script words) input = length input.queries ≡ 1
HasOne (load number rows) input = length input.queries ≡ 1
HasOne (prove words) input = (length input.queries ≡ 1) × (input.best ≡ None)
HasOne (verify proof words) input = (length input.queries ≡ 1) × (input.best ≡ None)

-- the verdict on the files of the shelf, or a cause on the way, which tells a file that is named
pub record IsJudgedOn (command : Command) (old new : Shelved)
    (result : Result AcceptedInput Reason) : Type 0 where
  pub staged : Staged (IsVerdict (a_command command)) (IsTurn (input_files_of command)) old new result
  pub tells : IfErr result (TellsOne (IsNamed (input_files_of command)))

abbrev pub IsJudged : Command → Shelved → Shelved → Result AcceptedInput Reason → Type 0
IsJudged (run words) old new result = IsJudgedOn (run words) old new result
IsJudged (plan words) old new result = IsJudgedOn (plan words) old new result
IsJudged (session script words) old new result = IsJudgedOn (session script words) old new result
IsJudged (prove words) old new result = IsJudgedOn (prove words) old new result
IsJudged (verify proof words) old new result = IsJudgedOn (verify proof words) old new result
IsJudged (load number rows) old new result =
    Pure (IsVerdict (a_command (load number rows)) []) result × (new ≡ old)

-- no item is named, unless the command may name one
abbrev pub IsUnnamed : Command → Option ℕ → Type 0
IsUnnamed (prove words) best = best ≡ None
IsUnnamed (verify proof words) best = best ≡ None
IsUnnamed other best = Unit {0}
