-- What holds of each call of the command `load`.
use Rattle.std.specs.Prelude.{◌≡◌, ◌⊎◌, ◌≤◌, ℕ, Option, Ok}
use Rattle.outer_io.specs.Files.{Files}
use Rattle.verdict.specs.AcceptedInput.{AcceptedInput}
use Rattle.verdict.specs.MadeFiles.{files_of_call}
use Rattle.verdict.specs.Outcome.{Outcome, Outside}
use Rattle.verdict.specs.Verdict.{IsVerdict}
use Rattle.verdict.specs.Words.{a_command, load}

-- its input is accepted, for each number and each number of rows that the command line takes
abbrev pub LoadAccepted : Type 0
LoadAccepted =
    (number rows : ℕ) → number ≤ 2147483647 → 1 ≤ rows → rows ≤ 100000
    → (given : Files) → (found : AcceptedInput) × IsVerdict (a_command (load number rows)) given (Ok found)

-- it is done, or its output failed, or memory ran out
abbrev pub LoadEnds : Type 0
LoadEnds =
    (number rows : ℕ) → number ≤ 2147483647 → 1 ≤ rows → rows ≤ 100000
    → (told : Option Files) (old new : Outside) (status : ℕ)
    → Outcome (a_command (load number rows)) (files_of_call (a_command (load number rows)) told) old new
    status
    → (status ≡ 0) ⊎ ((status ≡ 11) ⊎ (status ≡ 12))
