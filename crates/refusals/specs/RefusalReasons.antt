-- The reasons of the program's refusals.
use Rattle.refusals.specs.declared.refusal.Refusal.{Refusal}
use Rattle.refusals.specs.declared.refusal.Refusal.TheVariants as refusal
use Rattle.refusals.specs.Reason.{Reason, Usage, Syntax, BadLine, UnknownCursor, CursorExists, UnknownTable, DuplicateAlias, UnknownAlias, UnknownColumn, Ambiguous, UnknownBest, NoHeader, DuplicateName, Ragged, BadWeight, Cyclic, RankRange, TooLong, TooManyBranches, TooManyItems, TooManyKeys, LimitRange, TooLarge, TooManyColumns, TooManyTableRows, TooManyNodeRows, TooManyLines, TooManyOpen, NoFile, ReadFault, WriteFault, NoMemory, BadProofHeader, BadProofLine, BadBound, BoundTwice, WeakBound, BadAnswer, AnswerOrder, AnswerCount, MissedAnswer, BranchShape, UnionBest}
use Rattle.hyper_graph.specs.Items.{items_of}

-- the reason of a refusal
abbrev pub reason_of : Refusal → Reason
reason_of refusal.Usage = Usage
reason_of (refusal.Syntax at) = Syntax at
reason_of (refusal.BadLine line) = BadLine line
reason_of (refusal.UnknownCursor line) = UnknownCursor line
reason_of (refusal.CursorExists line) = CursorExists line
reason_of (refusal.UnknownTable at) = UnknownTable at
reason_of (refusal.DuplicateAlias branch item) = DuplicateAlias branch item
reason_of (refusal.UnknownAlias at) = UnknownAlias at
reason_of (refusal.UnknownColumn at) = UnknownColumn at
reason_of (refusal.Ambiguous at) = Ambiguous at
reason_of refusal.UnknownBest = UnknownBest
reason_of (refusal.NoHeader table) = NoHeader table.now
reason_of (refusal.DuplicateName table column) = DuplicateName table.now column
reason_of (refusal.Ragged table row) = Ragged table.now row
reason_of (refusal.BadWeight branch item row column) = BadWeight branch item row column
reason_of (refusal.Cyclic branch core) = Cyclic branch (items_of core)
reason_of (refusal.RankRange branch key) = RankRange branch key
reason_of refusal.TooLong = TooLong
reason_of refusal.TooManyBranches = TooManyBranches
reason_of refusal.TooManyItems = TooManyItems
reason_of refusal.TooManyKeys = TooManyKeys
reason_of (refusal.LimitRange at) = LimitRange at
reason_of (refusal.TooLarge file) = TooLarge file.now
reason_of (refusal.TooManyColumns table) = TooManyColumns table.now
reason_of (refusal.TooManyTableRows table) = TooManyTableRows table.now
reason_of refusal.TooManyNodeRows = TooManyNodeRows
reason_of refusal.TooManyLines = TooManyLines
reason_of (refusal.TooManyOpen line) = TooManyOpen line
reason_of (refusal.NoFile file) = NoFile file.now
reason_of (refusal.ReadFault file) = ReadFault file.now
reason_of refusal.WriteFault = WriteFault
reason_of refusal.NoMemory = NoMemory
reason_of refusal.BadProofHeader = BadProofHeader
reason_of (refusal.BadProofLine line) = BadProofLine line
reason_of (refusal.BadBound line) = BadBound line
reason_of (refusal.BoundTwice line) = BoundTwice line
reason_of (refusal.WeakBound node) = WeakBound node
reason_of (refusal.BadAnswer line) = BadAnswer line
reason_of (refusal.AnswerOrder line) = AnswerOrder line
reason_of refusal.AnswerCount = AnswerCount
reason_of refusal.MissedAnswer = MissedAnswer
reason_of (refusal.BranchShape branch) = BranchShape branch
reason_of refusal.UnionBest = UnionBest
