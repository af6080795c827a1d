-- Why a call ended before its output was complete: each reason with its status and its line.
-- Branches, items, keys, columns, rows and lines count from 1. The branch is named only if the
-- query has several.
use Rattle.std.specs.Prelude.{ℕ, List, [], ◌++◌, Option, None, Some, codes, decimal}
pub use Rattle.text_lines.specs.SpacedNumbers.{spaced}

pub data Reason : Type 0 where
  Usage : Reason
  Syntax : (at : ℕ) → Reason
  BadLine : (line : ℕ) → Reason
  UnknownCursor : (line : ℕ) → Reason
  CursorExists : (line : ℕ) → Reason
  UnknownTable : (at : ℕ) → Reason
  DuplicateAlias : (branch : Option ℕ) (item : ℕ) → Reason
  UnknownAlias : (at : ℕ) → Reason
  UnknownColumn : (at : ℕ) → Reason
  Ambiguous : (at : ℕ) → Reason
  UnknownBest : Reason
  NoHeader : (table : List ℕ) → Reason
  DuplicateName : (table : List ℕ) (column : ℕ) → Reason
  Ragged : (table : List ℕ) (row : ℕ) → Reason
  BadWeight : (branch : Option ℕ) (item row column : ℕ) → Reason
  Cyclic : (branch : Option ℕ) (core : List ℕ) → Reason
  RankRange : (branch : Option ℕ) (key : ℕ) → Reason
  TooLong : Reason
  TooManyBranches : Reason
  TooManyItems : Reason
  TooManyKeys : Reason
  LimitRange : (at : ℕ) → Reason
  TooLarge : (file : List ℕ) → Reason
  TooManyColumns : (table : List ℕ) → Reason
  TooManyTableRows : (table : List ℕ) → Reason
  TooManyNodeRows : Reason
  TooManyLines : Reason
  TooManyOpen : (line : ℕ) → Reason
  NoFile : (file : List ℕ) → Reason
  ReadFault : (file : List ℕ) → Reason
  WriteFault : Reason
  NoMemory : Reason
  BadProofHeader : Reason
  BadProofLine : (line : ℕ) → Reason
  BadBound : (line : ℕ) → Reason
  BoundTwice : (line : ℕ) → Reason
  WeakBound : (node : ℕ) → Reason
  BadAnswer : (line : ℕ) → Reason
  AnswerOrder : (line : ℕ) → Reason
  AnswerCount : Reason
  MissedAnswer : Reason
  BranchShape : (branch : ℕ) → Reason
  UnionBest : Reason

abbrev pub status_of : Reason → ℕ
status_of Usage = 2
status_of (Syntax at) = 3
status_of (BadLine line) = 3
status_of (UnknownCursor line) = 3
status_of (CursorExists line) = 3
status_of (UnknownTable at) = 4
status_of (DuplicateAlias branch item) = 4
status_of (UnknownAlias at) = 4
status_of (UnknownColumn at) = 4
status_of (Ambiguous at) = 4
status_of UnknownBest = 4
status_of (NoHeader table) = 5
status_of (DuplicateName table column) = 5
status_of (Ragged table row) = 5
status_of (BadWeight branch item row column) = 5
status_of (Cyclic branch core) = 6
status_of (RankRange branch key) = 7
status_of TooLong = 8
status_of TooManyBranches = 8
status_of TooManyItems = 8
status_of TooManyKeys = 8
status_of (LimitRange at) = 8
status_of (TooLarge file) = 8
status_of (TooManyColumns table) = 8
status_of (TooManyTableRows table) = 8
status_of TooManyNodeRows = 8
status_of TooManyLines = 8
status_of (TooManyOpen line) = 8
status_of (NoFile file) = 9
status_of (ReadFault file) = 10
status_of WriteFault = 11
status_of NoMemory = 12
status_of BadProofHeader = 14
status_of (BadProofLine line) = 14
status_of (BadBound line) = 14
status_of (BoundTwice line) = 14
status_of (WeakBound node) = 14
status_of (BadAnswer line) = 14
status_of (AnswerOrder line) = 14
status_of AnswerCount = 14
status_of MissedAnswer = 14
status_of (BranchShape branch) = 15
status_of UnionBest = 15

abbrev pub on_table : List ℕ → List ℕ → List ℕ
on_table table what = codes "table " ++ (table ++ (codes ": " ++ what))

abbrev pub on_file : List ℕ → List ℕ → List ℕ
on_file file what = codes "file " ++ (file ++ what)

abbrev pub on_byte : ℕ → List ℕ → List ℕ
on_byte at what = codes "byte " ++ (decimal at ++ (codes ": " ++ what))

abbrev pub on_line : ℕ → List ℕ → List ℕ
on_line line what = codes "script line " ++ (decimal line ++ (codes ": " ++ what))

abbrev pub on_proof_line : ℕ → List ℕ → List ℕ
on_proof_line line what = codes "proof line " ++ (decimal line ++ (codes ": " ++ what))

-- the branch that the line names, if it names one
abbrev pub branch_of : Reason → Option ℕ
branch_of (DuplicateAlias branch item) = branch
branch_of (BadWeight branch item row column) = branch
branch_of (Cyclic branch core) = branch
branch_of (RankRange branch key) = branch
branch_of (BranchShape branch) = Some branch
branch_of other = None

abbrev pub branch_text : Option ℕ → List ℕ
branch_text None = []
branch_text (Some branch) = codes "branch " ++ (decimal branch ++ codes ": ")

-- the text after the branch
abbrev pub text_of : Reason → List ℕ
text_of Usage = codes "usage"
text_of (Syntax at) = codes "syntax error at byte " ++ decimal at
text_of (BadLine line) = on_line line (codes "bad line")
text_of (UnknownCursor line) = on_line line (codes "unknown cursor")
text_of (CursorExists line) = on_line line (codes "cursor exists")
text_of (UnknownTable at) = on_byte at (codes "unknown table")
text_of (DuplicateAlias branch item) = codes "item " ++ (decimal item ++ codes ": alias used twice")
text_of (UnknownAlias at) = on_byte at (codes "unknown alias")
text_of (UnknownColumn at) = on_byte at (codes "unknown column")
text_of (Ambiguous at) = on_byte at (codes "ambiguous column")
text_of UnknownBest = codes "unknown alias in --best-of"
text_of (NoHeader table) = on_table table (codes "no header")
text_of (DuplicateName table column) = on_table table
    (codes "column " ++ (decimal column ++ codes ": name used twice"))
text_of (Ragged table row) = on_table table
    (codes "row " ++ (decimal row ++ codes ": wrong number of fields"))
text_of (BadWeight branch item row column) =
    codes "item " ++ (decimal item
    ++ (codes ": row " ++
    (decimal row ++ (codes ": column " ++ (decimal column ++ codes ": not a weight")))))
text_of (Cyclic branch core) = codes "cyclic query: items" ++ spaced core
text_of (RankRange branch key) = codes "order key "
    ++ (decimal key ++ codes ": rank may pass 128 bits")
text_of TooLong = codes "query longer than 65536 bytes"
text_of TooManyBranches = codes "more than 8 branches"
text_of TooManyItems = codes "more than 16 items"
text_of TooManyKeys = codes "more than 8 order keys"
text_of (LimitRange at) = codes "limit at byte " ++ (decimal at ++ codes " out of range")
text_of (TooLarge file) = on_file file (codes " longer than 67108864 bytes")
text_of (TooManyColumns table) = on_table table (codes "more than 64 columns")
text_of (TooManyTableRows table) = on_table table (codes "more than 1048576 rows")
text_of TooManyNodeRows = codes "more than 4194304 node rows"
text_of TooManyLines = codes "script: more than 10000 lines"
text_of (TooManyOpen line) = on_line line (codes "more than 64 cursors")
text_of (NoFile file) = on_file file (codes ": not found")
text_of (ReadFault file) = on_file file (codes ": read failed")
text_of WriteFault = codes "write failed"
text_of NoMemory = codes "out of memory"
text_of BadProofHeader = codes "proof: bad header"
text_of (BadProofLine line) = on_proof_line line (codes "bad line")
text_of (BadBound line) = on_proof_line line (codes "no solution")
text_of (BoundTwice line) = on_proof_line line (codes "bound twice")
text_of (WeakBound node) = codes "proof node "
    ++ (decimal node ++ codes ": bound missing or too high")
text_of (BadAnswer line) = on_proof_line line (codes "no answer")
text_of (AnswerOrder line) = on_proof_line line (codes "not in order")
text_of AnswerCount = codes "proof: wrong number of answers"
text_of MissedAnswer = codes "proof: unlisted answer"
text_of (BranchShape branch) = codes "shape differs"
text_of UnionBest = codes "several branches with --best-of"

abbrev pub line_of : Reason → List ℕ
line_of reason = codes "anyk: "
    ++ (branch_text (branch_of reason) ++ (text_of reason ++ codes "\n"))
