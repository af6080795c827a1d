use Rattle.std.proofs.Common.{◌≡◌, ◌∙◌, ◌++◌, List, ℕ, ap, append-nil, codes, decimal, sym}
use Rattle.refusals.specs.Reason.{text_of}
use Rattle.refusals.specs.RefusalReasons.{reason_of}
use Rattle.refusals.specs.declared.refusal.Refusal.{Refusal}
use Rattle.refusals.proofs.form.form_of.Goals as goal

-- the text of a refusal that is this one
same : (refusal this : Refusal) → refusal ≡ this → text_of (reason_of this) ≡ text_of (reason_of refusal)
same refusal this is = ap (λ r. text_of (reason_of r)) (sym is)

pub returns-in-Usage : goal.returns-in-Usage
returns-in-Usage c = same _ _ c.in-Usage.is

pub returns-in-Syntax : goal.returns-in-Syntax
returns-in-Syntax c = ap (λ (l : List ℕ). codes "syntax error at byte " ++ l) (append-nil (decimal c.in-Syntax.at)) ∙ same _ _ c.in-Syntax.is

pub returns-in-BadLine : goal.returns-in-BadLine
returns-in-BadLine c = same _ _ c.in-BadLine.is

pub returns-in-UnknownCursor : goal.returns-in-UnknownCursor
returns-in-UnknownCursor c = same _ _ c.in-UnknownCursor.is

pub returns-in-CursorExists : goal.returns-in-CursorExists
returns-in-CursorExists c = same _ _ c.in-CursorExists.is

pub returns-in-UnknownTable : goal.returns-in-UnknownTable
returns-in-UnknownTable c = same _ _ c.in-UnknownTable.is

pub returns-in-DuplicateAlias : goal.returns-in-DuplicateAlias
returns-in-DuplicateAlias c = same _ _ c.in-DuplicateAlias.is

pub returns-in-UnknownAlias : goal.returns-in-UnknownAlias
returns-in-UnknownAlias c = same _ _ c.in-UnknownAlias.is

pub returns-in-UnknownColumn : goal.returns-in-UnknownColumn
returns-in-UnknownColumn c = same _ _ c.in-UnknownColumn.is

pub returns-in-Ambiguous : goal.returns-in-Ambiguous
returns-in-Ambiguous c = same _ _ c.in-Ambiguous.is

pub returns-in-UnknownBest : goal.returns-in-UnknownBest
returns-in-UnknownBest c = same _ _ c.in-UnknownBest.is

pub returns-in-NoHeader : goal.returns-in-NoHeader
returns-in-NoHeader c = same _ _ c.in-NoHeader.is

pub returns-in-DuplicateName : goal.returns-in-DuplicateName
returns-in-DuplicateName c = same _ _ c.in-DuplicateName.is

pub returns-in-Ragged : goal.returns-in-Ragged
returns-in-Ragged c = same _ _ c.in-Ragged.is

pub returns-in-BadWeight : goal.returns-in-BadWeight
returns-in-BadWeight c = same _ _ c.in-BadWeight.is

pub returns-in-Cyclic : goal.returns-in-Cyclic
returns-in-Cyclic c = same _ _ c.in-Cyclic.is

pub returns-in-RankRange : goal.returns-in-RankRange
returns-in-RankRange c = same _ _ c.in-RankRange.is

pub returns-in-TooLong : goal.returns-in-TooLong
returns-in-TooLong c = same _ _ c.in-TooLong.is

pub returns-in-TooManyBranches : goal.returns-in-TooManyBranches
returns-in-TooManyBranches c = same _ _ c.in-TooManyBranches.is

pub returns-in-TooManyItems : goal.returns-in-TooManyItems
returns-in-TooManyItems c = same _ _ c.in-TooManyItems.is

pub returns-in-TooManyKeys : goal.returns-in-TooManyKeys
returns-in-TooManyKeys c = same _ _ c.in-TooManyKeys.is

pub returns-in-LimitRange : goal.returns-in-LimitRange
returns-in-LimitRange c = same _ _ c.in-LimitRange.is

pub returns-in-TooLarge : goal.returns-in-TooLarge
returns-in-TooLarge c = same _ _ c.in-TooLarge.is

pub returns-in-TooManyColumns : goal.returns-in-TooManyColumns
returns-in-TooManyColumns c = same _ _ c.in-TooManyColumns.is

pub returns-in-TooManyTableRows : goal.returns-in-TooManyTableRows
returns-in-TooManyTableRows c = same _ _ c.in-TooManyTableRows.is

pub returns-in-TooManyNodeRows : goal.returns-in-TooManyNodeRows
returns-in-TooManyNodeRows c = same _ _ c.in-TooManyNodeRows.is

pub returns-in-TooManyLines : goal.returns-in-TooManyLines
returns-in-TooManyLines c = same _ _ c.in-TooManyLines.is

pub returns-in-TooManyOpen : goal.returns-in-TooManyOpen
returns-in-TooManyOpen c = same _ _ c.in-TooManyOpen.is

pub returns-in-NoFile : goal.returns-in-NoFile
returns-in-NoFile c = same _ _ c.in-NoFile.is

pub returns-in-ReadFault : goal.returns-in-ReadFault
returns-in-ReadFault c = same _ _ c.in-ReadFault.is

pub returns-in-WriteFault : goal.returns-in-WriteFault
returns-in-WriteFault c = same _ _ c.in-WriteFault.is

pub returns-in-NoMemory : goal.returns-in-NoMemory
returns-in-NoMemory c = same _ _ c.in-NoMemory.is

pub returns-in-BadProofHeader : goal.returns-in-BadProofHeader
returns-in-BadProofHeader c = same _ _ c.in-BadProofHeader.is

pub returns-in-BadProofLine : goal.returns-in-BadProofLine
returns-in-BadProofLine c = same _ _ c.in-BadProofLine.is

pub returns-in-BadBound : goal.returns-in-BadBound
returns-in-BadBound c = same _ _ c.in-BadBound.is

pub returns-in-BoundTwice : goal.returns-in-BoundTwice
returns-in-BoundTwice c = same _ _ c.in-BoundTwice.is

pub returns-in-WeakBound : goal.returns-in-WeakBound
returns-in-WeakBound c = same _ _ c.in-WeakBound.is

pub returns-in-BadAnswer : goal.returns-in-BadAnswer
returns-in-BadAnswer c = same _ _ c.in-BadAnswer.is

pub returns-in-AnswerOrder : goal.returns-in-AnswerOrder
returns-in-AnswerOrder c = same _ _ c.in-AnswerOrder.is

pub returns-in-AnswerCount : goal.returns-in-AnswerCount
returns-in-AnswerCount c = same _ _ c.in-AnswerCount.is

pub returns-in-MissedAnswer : goal.returns-in-MissedAnswer
returns-in-MissedAnswer c = same _ _ c.in-MissedAnswer.is

pub returns-in-BranchShape : goal.returns-in-BranchShape
returns-in-BranchShape c = same _ _ c.in-BranchShape.is

pub returns-in-UnionBest : goal.returns-in-UnionBest
returns-in-UnionBest c = same _ _ c.in-UnionBest.is
