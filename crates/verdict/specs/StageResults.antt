-- The result of one stage of a call: what the stage finds, or a cause on the way.
use Rattle.std.specs.Prelude.{◌≡◌, ◌≤◌, ℕ, List, Option, IfSome, Result, Ok, Err}
use Rattle.outer_io.specs.Counts.{Rose, RoseAbove}
use Rattle.outer_io.specs.Files.{Files}
use Rattle.outer_io.specs.declared.shelf.Shelf.{Ghosts}
use Rattle.refusals.specs.Reason as reason
use Rattle.refusals.specs.Reason.{Reason}
use Rattle.verdict.specs.Loading.{most_bytes}

-- what is known and counted of a shelf, before a stage or after it
pub record Shelved : Type 0 where
  pub files : Option Files
  pub misses : ℕ
  pub faults : ℕ
  pub taken : ℕ

-- this of a shelf
abbrev pub shelved : {S : Type 0} → Ghosts S → S → Shelved
shelved counts shelf =
    record {
      files = counts.files shelf;
      misses = counts.misses shelf;
      faults = counts.faults shelf;
      taken = counts.taken shelf;
    }

-- if the files are known: the result is the stage's, or, if a read failed, the file is one that the
-- stage reads
abbrev pub IsStageOf : {A : Type 0} → (Files → Result A Reason → Type 0) → (Files → List ℕ → Type 0)
    → Option Files → Result A Reason → Type 0
IsStageOf Gives Turn told (Err reason.NoMemory) = Unit {0}
IsStageOf Gives Turn told (Err (reason.ReadFault name)) = IfSome told (λ files. Turn files name)
IsStageOf Gives Turn told (Err reason.WriteFault) = ⊥
IsStageOf Gives Turn told (Err reason.Usage) = ⊥
IsStageOf Gives Turn told result = IfSome told (λ files. Gives files result)

-- a reason about the shelf is given only if its count rose: for a file that is too large, more
-- bytes were read than a file may have
abbrev pub Causes : {A : Type 0} → Shelved → Shelved → Result A Reason → Type 0
Causes old new (Err (reason.NoFile name)) = Rose old.misses new.misses
Causes old new (Err (reason.ReadFault name)) = Rose old.faults new.faults
Causes old new (Err (reason.TooLarge name)) = RoseAbove most_bytes old.taken new.taken
Causes old new result = Unit {0}

pub record Staged {A : Type 0} (Gives : Files → Result A Reason → Type 0)
    (Turn : Files → List ℕ → Type 0) (old new : Shelved) (result : Result A Reason) : Type 0 where
  pub fits : IsStageOf Gives Turn old.files result
  pub caused : Causes old new result
  pub files : new.files ≡ old.files
  pub misses : old.misses ≤ new.misses
  pub faults : old.faults ≤ new.faults
  pub taken : old.taken ≤ new.taken

-- a reason that tells a file tells one of these
abbrev pub TellsOne : (List ℕ → Type 0) → Reason → Type 0
TellsOne IsOne (reason.NoFile name) = IsOne name
TellsOne IsOne (reason.ReadFault name) = IsOne name
TellsOne IsOne (reason.TooLarge name) = IsOne name
TellsOne IsOne other = Unit {0}

-- a stage that reads no file: its result, or no memory
abbrev pub Pure : {A : Type 0} → (Result A Reason → Type 0) → Result A Reason → Type 0
Pure Gives (Err reason.NoMemory) = Unit {0}
Pure Gives (Err (reason.NoFile name)) = ⊥
Pure Gives (Err (reason.ReadFault name)) = ⊥
Pure Gives (Err (reason.TooLarge name)) = ⊥
Pure Gives (Err reason.WriteFault) = ⊥
Pure Gives (Err reason.Usage) = ⊥
Pure Gives result = Gives result

-- it reads no file
abbrev pub NoTurn : Files → List ℕ → Type 0
NoTurn files name = ⊥

-- the files that two stages read, one after another
pub data EitherTurn {A : Type 0} (Gives : Files → Result A Reason → Type 0)
    (First : Files → List ℕ → Type 0) (Second : A → Files → List ℕ → Type 0) (files : Files)
    (name : List ℕ) : Type 0 where
  first_turn : First files name → EitherTurn Gives First Second files name
  second_turn : {a : A} → Gives files (Ok a) → Second a files name
      → EitherTurn Gives First Second files name
