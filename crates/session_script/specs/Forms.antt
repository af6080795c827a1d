-- The forms of a line that says a step.
use Rattle.std.specs.Prelude.{◌≡◌, ℕ, ◌+◌, List, ◌∷◌, ◌++◌, length, Option, Some, None, IsTrue, false, codes, [], not, filter}
use Rattle.session_script.specs.declared.step.Step.{Step}
use Rattle.session_script.specs.declared.step.Step.TheVariants.{Open, Next, Fork, Rewind, Close}
use Rattle.session_script.specs.declared.script_fault.ScriptFault.{ScriptFault}
use Rattle.session_script.specs.declared.script_fault.ScriptFault.TheVariants.{TooManyLines, BadLine, UnknownCursor, CursorExists, TooManyOpen, NoMemory}
use Rattle.session_script.specs.Names.{is_name}
use Rattle.session_script.specs.Words.{is_skipped, is_count, decimal_value}

-- exactly one space is between two parts
pub data Says : List ℕ → Step → Type 0 where
  opens : {name : List ℕ} → IsTrue (is_name name) → Says (codes "open " ++ name) (Open name)
  moves : {name : List ℕ} (digits : List ℕ) → IsTrue (is_name name) → IsTrue (is_count digits)
      → Says (codes "next " ++ (name ++ 32 ∷ digits)) (Next name (decimal_value digits))
  forks : {name new : List ℕ} → IsTrue (is_name name) → IsTrue (is_name new)
      → Says (codes "fork " ++ (name ++ 32 ∷ new)) (Fork name new)
  rewinds : {name : List ℕ} → IsTrue (is_name name) → Says (codes "rewind " ++ name) (Rewind name)
  closes : {name : List ℕ} → IsTrue (is_name name) → Says (codes "close " ++ name) (Close name)

-- the step that the line says, and None if it says none
abbrev pub IsSaid : List ℕ → Option Step → Type 0
IsSaid line None = (step : Step) → Says line step → ⊥
IsSaid line (Some step) = Says line step

-- each line says its step
abbrev pub SayEach : List (List ℕ) → List Step → Type 0
SayEach [] [] = Unit {0}
SayEach (line ∷ lines) (step ∷ steps) = Says line step × SayEach lines steps
SayEach [] (step ∷ steps) = ⊥
SayEach (line ∷ lines) [] = ⊥

-- the lines that are neither empty nor comments
abbrev pub said_lines : List (List ℕ) → List (List ℕ)
said_lines lines = filter (λ line. not (is_skipped line)) lines

-- The line of this number, from 1, says no step, and each line before it says one, but for empty
-- lines and comments.
pub record IsBadLine (lines : List (List ℕ)) (number : ℕ) : Type 0 where
  pub before : List (List ℕ)
  pub line : List ℕ
  pub after : List (List ℕ)
  pub parts : lines ≡ before ++ line ∷ after
  pub place : number ≡ length before + 1
  pub is_read : is_skipped line ≡ false
  pub says_none : IsSaid line None
  pub steps : List Step
  pub others_say : SayEach (said_lines before) steps

-- a fault that names a bad line names the first one
abbrev pub NamesBadLine : List (List ℕ) → ScriptFault → Type 0
NamesBadLine lines (BadLine number) = IsBadLine lines number
NamesBadLine lines TooManyLines = Unit {0}
NamesBadLine lines (UnknownCursor number) = Unit {0}
NamesBadLine lines (CursorExists number) = Unit {0}
NamesBadLine lines (TooManyOpen number) = Unit {0}
NamesBadLine lines NoMemory = Unit {0}
