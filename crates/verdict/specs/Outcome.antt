-- What a call of the program has done, by what its arguments ask for and what is known of the
-- outside.
use Rattle.std.specs.Prelude.{◌≡◌, ◌≢◌, ◌⊎◌, ◌==◌, true, ℕ, List, [], ◌∷◌, Option, Some, None, IfSome, Ok, Err}
use Rattle.std.specs.List.{list_any}
use Rattle.std.specs.Io.KnownBytes.{Appends}
use Rattle.outer_io.specs.Counts.{Rose, RoseAbove}
use Rattle.outer_io.specs.Files.{Files}
use Rattle.query_select.specs.declared.select.Select.{Select}
use Rattle.rankings.specs.Order.{IsMember}
use Rattle.refusals.specs.Reason as reason
use Rattle.refusals.specs.Reason.{Reason, status_of, line_of}
use Rattle.verdict.specs.Words.{Command, Asked, InputFiles, no_command, a_command, run, plan, session, load, prove, verify, IsNamedBy, aside_name, input_files_of}
use Rattle.verdict.specs.AcceptedInput.{AcceptedInput}
use Rattle.verdict.specs.Loading.{SideInput, IsReading, all_items, most_bytes, beside_in, file_in, unknown_table, first_uses, files_read}
use Rattle.verdict.specs.Output.{HasOutput}
use Rattle.outer_io.specs.SinkText.{GotPrefix}
use Rattle.verdict.specs.Verdict.{IsVerdict}

-- the outside, at the call or at its end
pub record Outside : Type 0 where
  pub misses : ℕ
  pub read_faults : ℕ
  -- the number of bytes that were read
  pub taken : ℕ
  pub output : Option (List ℕ)
  pub write_faults : ℕ
  pub errors : Option (List ℕ)
  pub error_faults : ℕ

-- ---- what was written

-- the line was written, as far as the sink for errors took it
pub record HasLine (old new : Outside) (line : List ℕ) : Type 0 where
  pub prefix : GotPrefix old.errors new.errors line
  pub whole : (Rose old.error_faults new.error_faults → ⊥) → Appends old.errors new.errors line

-- if the files are known: the input is accepted, and its complete output was written
abbrev pub IsComplete : Asked → Option Files → Outside → Outside → Type 0
IsComplete (a_command command) told old new =
    IfSome told (λ files. (found : AcceptedInput) × IsVerdict (a_command command) files (Ok found)
    × (text : List ℕ) × HasOutput command found text × Appends old.output new.output text)
IsComplete asked told old new = ⊥

-- if the files are known: the input is accepted, and the output got a prefix of its complete output
abbrev pub GotAccepted : Asked → Option Files → Outside → Outside → Type 0
GotAccepted (a_command command) told old new =
    IfSome told (λ files. (found : AcceptedInput) × IsVerdict (a_command command) files (Ok found)
    × (text : List ℕ) × HasOutput command found text × GotPrefix old.output new.output text)
GotAccepted asked told old new = ⊥

abbrev pub GotNothing : Outside → Outside → Type 0
GotNothing old new = Appends old.output new.output []

-- ---- the reasons

-- The file is read for this input. It is the file of the query; or of the script or the
-- certificate, once the query is parsed; or of one of the tables up to the first refusal, once
-- these are read.
pub data IsTurnOf (sought : InputFiles) (files : Files) (name : List ℕ) : Type 0 where
  query_turn : name ≡ sought.query → IsTurnOf sought files name
  aside_turn : {bytes : List ℕ} (selects : List Select) → file_in files sought.query ≡ Ok bytes
      → IsReading sought.several bytes (Ok selects)
      → aside_name sought.aside ≡ Some name → IsTurnOf sought files name
  table_turn : {bytes : List ℕ} (selects : List Select) {beside : SideInput}
      → file_in files sought.query ≡ Ok bytes → IsReading sought.several bytes (Ok selects)
      → beside_in files sought.aside ≡ Ok beside
      → unknown_table sought.named (all_items selects) ≡ None
      → IsMember name (files_read files sought.named (first_uses (all_items selects)))
      → IsTurnOf sought files name

-- if the files are known, it is a file that the command reads; `load` reads none
abbrev pub IsCommandTurn : Command → Option Files → List ℕ → Type 0
IsCommandTurn (run words) told name = IfSome told
    (λ files. IsTurnOf (input_files_of (run words)) files name)
IsCommandTurn (plan words) told name = IfSome told
    (λ files. IsTurnOf (input_files_of (plan words)) files name)
IsCommandTurn (session script words) told name = IfSome told
    (λ files. IsTurnOf (input_files_of (session script words)) files name)
IsCommandTurn (prove words) told name = IfSome told
    (λ files. IsTurnOf (input_files_of (prove words)) files name)
IsCommandTurn (verify proof words) told name = IfSome told
    (λ files. IsTurnOf (input_files_of (verify proof words)) files name)
IsCommandTurn (load number rows) told name = ⊥

abbrev pub IsTurn : Asked → Option Files → List ℕ → Type 0
IsTurn (a_command command) told name = IsCommandTurn command told name
IsTurn no_command told name = ⊥

-- if the files are known, the reason is the verdict on the input, or it says what happened on the
-- way
abbrev pub IsReason : Asked → Option Files → Reason → Type 0
IsReason asked told reason.Usage = asked ≡ no_command
IsReason asked told (reason.ReadFault name) = IsTurn asked told name
IsReason asked told reason.WriteFault = IfSome told
    (λ files. (found : AcceptedInput) × IsVerdict asked files (Ok found))
IsReason asked told reason.NoMemory = Unit {0}
IsReason asked told refusal = IfSome told (λ files. IsVerdict asked files (Err refusal))

-- A reason about the outside is given only if the count that belongs to it rose: for a file that is
-- too large, more bytes were read than a file may have. The file is one that the arguments name,
-- also if no file is known.
abbrev pub IsCaused : Asked → Outside → Outside → Reason → Type 0
IsCaused asked old new (reason.NoFile name) = Rose old.misses new.misses × IsNamedBy asked name
IsCaused asked old new (reason.ReadFault name) = Rose old.read_faults new.read_faults
    × IsNamedBy asked name
IsCaused asked old new (reason.TooLarge name) = RoseAbove most_bytes old.taken new.taken
    × IsNamedBy asked name
IsCaused asked old new reason.WriteFault = Rose old.write_faults new.write_faults
IsCaused asked old new other = Unit {0}

-- what the output got if memory ran out: `plan`, `load` and `prove` write once, at their end
abbrev pub IsCutShort : Asked → Option Files → Outside → Outside → Type 0
IsCutShort no_command told old new = GotNothing old new
IsCutShort (a_command (plan words)) told old new = GotNothing old new
IsCutShort (a_command (load number rows)) told old new = GotNothing old new
IsCutShort (a_command (prove words)) told old new = GotNothing old new
IsCutShort asked told old new = GotNothing old new ⊎ GotAccepted asked told old new

-- what the output got if the call ended with a reason
abbrev pub IsCut : Asked → Option Files → Outside → Outside → Reason → Type 0
IsCut asked told old new reason.WriteFault = GotAccepted asked told old new
IsCut asked told old new reason.NoMemory = IsCutShort asked told old new
IsCut asked told old new other = GotNothing old new

-- the call ended for this reason
pub record Ended (asked : Asked) (told : Option Files) (old new : Outside)
    (reason : Reason) : Type 0 where
  pub fits : IsReason asked told reason
  pub caused : IsCaused asked old new reason
  pub cut : IsCut asked told old new reason
  pub line : HasLine old new (line_of reason)

-- ---- completeness

-- if the input is accepted and nothing failed, the call is done, or memory ran out
abbrev pub IsDoneWhereAccepted : Asked → Option Files → Outside → Outside → ℕ → Type 0
IsDoneWhereAccepted asked told old new status = IfSome told
    (λ files. (found : AcceptedInput) → IsVerdict asked files (Ok found)
    → (Rose old.read_faults new.read_faults → ⊥) → (Rose old.write_faults new.write_faults → ⊥)
    → (status ≡ 0) ⊎ (status ≡ 12))

-- if the input is refused and no read failed, the status is the refusal's, or memory ran out
abbrev pub IsRefusedWhereRefused : Asked → Option Files → Outside → Outside → ℕ → Type 0
IsRefusedWhereRefused asked told old new status = IfSome told
    (λ files. (refusal : Reason) → IsVerdict asked files (Err refusal)
    → (Rose old.read_faults new.read_faults → ⊥) → (status ≡ status_of refusal) ⊎ (status ≡ 12))

-- if the input is refused, the output got nothing, whatever the status is
abbrev pub IsUnwrittenWhereRefused : Asked → Option Files → Outside → Outside → Type 0
IsUnwrittenWhereRefused asked told old new =
    IfSome told (λ files. (refusal : Reason) → IsVerdict asked files (Err refusal)
    → GotNothing old new)

-- ---- all together

abbrev pub statuses : List ℕ
statuses = 0 ∷ 2 ∷ 3 ∷ 4 ∷ 5 ∷ 6 ∷ 7 ∷ 8 ∷ 9 ∷ 10 ∷ 11 ∷ 12 ∷ 14 ∷ 15 ∷ []

-- all that is stated about one call of the program
pub record Outcome (asked : Asked) (told : Option Files) (old new : Outside)
    (status : ℕ) : Type 0 where
  pub known : list_any (λ s. s == status) statuses ≡ true
  pub done : status ≡ 0 → IsComplete asked told old new
  pub quiet : status ≡ 0 → Appends old.errors new.errors []
  pub refused : status ≢ 0
      → (reason : Reason) × (status_of reason ≡ status) × Ended asked told old new reason
  pub usage : asked ≡ no_command → (status ≡ 2) ⊎ (status ≡ 12)
  pub accepted : IsDoneWhereAccepted asked told old new status
  pub exact : IsRefusedWhereRefused asked told old new status
  pub unwritten : IsUnwrittenWhereRefused asked told old new

-- if the arguments are not a command, or ask for `load`, the shelf is as it was: no file was opened
abbrev pub IsUntouched : {F : Type 0} → Asked → F → F → Type 0
IsUntouched no_command old new = new ≡ old
IsUntouched (a_command (load number rows)) old new = new ≡ old
IsUntouched asked old new = Unit {0}
