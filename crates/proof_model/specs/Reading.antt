-- The certificate that a text is, and the first line for which it is none.
use Rattle.std.specs.Prelude.{◌≡◌, ◌⊎◌, ℕ, ◌+◌, ◌==◌, Bool, if◌then◌else◌, List, [], ◌∷◌, ◌++◌, length}
use Rattle.std.specs.Prelude.{Option, Some, None, Result, Ok, Err, codes}
use Rattle.std.specs.Str.{bytes_eq}
use Rattle.std.specs.Str.Lines.{lines}
use Rattle.proof_model.specs.declared.fault.ProofFault.{ProofFault}
use Rattle.proof_model.specs.declared.fault.ProofFault.TheVariants.{BadHeader, BadLine, NoMemory}
use Rattle.proof_model.specs.Certificate.{BoundLine, AnswerLine, Certificate}
use Rattle.proof_model.specs.Forms.{LineForm, bound, answer, last, line_of}

-- the bounds and the answers of the lines so far
pub record Lines : Type 0 where
  pub bounds : List BoundLine
  pub answers : List AnswerLine

abbrev pub no_lines : Lines
no_lines = record { bounds = []; answers = [] }

-- with one bound more
abbrev pub with_bound : ℕ → Lines → ℕ → List ℕ → Lines
with_bound n read node rows =
    record {
      bounds = read.bounds ++ record { line = n; node = node; rows = rows } ∷ [];
      answers = read.answers;
    }

-- with one answer more
abbrev pub with_answer : ℕ → Lines → List ℕ → Lines
with_answer n read rows =
    record { bounds = read.bounds; answers = read.answers ++ record { line = n; rows = rows } ∷ [] }

-- the certificate of all lines
abbrev pub certificate_of : Lines → Bool → Certificate
certificate_of read ended = record { bounds = read.bounds; answers = read.answers; ended = ended }

-- no line is after the last one
abbrev pub at_last : ℕ → Certificate → List (List ℕ) → Result Certificate ProofFault
at_last n proof [] = Ok proof
at_last n proof (text ∷ more) = Err (BadLine (n + 1))

-- What the line of number n says is put to what was read, and the lines after it are read.
-- No bound is after an answer.
abbrev pub by_line : ℕ → Lines → Option LineForm → List (List ℕ)
    → (Lines → Result Certificate ProofFault)
    → Result Certificate ProofFault
by_line n read None more later = Err (BadLine n)
by_line n read (Some (last ended)) more later = at_last n (certificate_of read ended) more
by_line n read (Some (bound node rows)) more later =
    if length read.answers == 0 then later (with_bound n read node rows) else Err (BadLine n)
by_line n read (Some (answer rows)) more later = later (with_answer n read rows)

-- the certificate of the lines from number n on, after those that were read
unfoldable pub read_from : ℕ → Lines → List (List ℕ) → Result Certificate ProofFault
read_from n read [] = Err (BadLine n)
read_from n read (text ∷ more) = by_line n read (line_of text) more
    (λ after. read_from (n + 1) after more)

abbrev pub proof_of_lines : List (List ℕ) → Result Certificate ProofFault
proof_of_lines [] = Err BadHeader
proof_of_lines (first ∷ more) =
    if bytes_eq first (codes "anyk-proof 1") then read_from 2 no_lines more else Err BadHeader

-- the certificate that bytes are, or why they are none
abbrev pub proof_of : List ℕ → Result Certificate ProofFault
proof_of bytes = proof_of_lines (lines bytes)

-- a result that is an error: memory was refused, or it is this fault
abbrev pub IsProofFault : {A : Type 0} → Result A ProofFault → ProofFault → Type 0
IsProofFault r e = (e ≡ NoMemory) ⊎ (r ≡ Err e)
