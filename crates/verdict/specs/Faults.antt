-- The reason for a fault of a part. Running out of memory is not a fault of the input.
use Rattle.std.specs.Prelude.{ℕ, List, Option}
use Rattle.query_parse.specs.declared.fault.ParseFault.{ParseFault}
use Rattle.query_parse.specs.declared.fault.ParseFault.TheVariants as parse
use Rattle.session_script.specs.declared.script_fault.ScriptFault.{ScriptFault}
use Rattle.session_script.specs.declared.script_fault.ScriptFault.TheVariants as script
use Rattle.proof_model.specs.declared.fault.ProofFault.{ProofFault}
use Rattle.proof_model.specs.declared.fault.ProofFault.TheVariants as proof
use Rattle.query_bind.specs.declared.fault.BindFault.{BindFault}
use Rattle.query_bind.specs.declared.fault.BindFault.TheVariants as bind
use Rattle.anyk_model.specs.Table.{Flaw, no_header, too_many_columns, duplicate_name, too_many_rows, ragged}
use Rattle.bound_query.specs.Shape.{Flaw as ShapeFlaw, cyclic, too_many_rows as too_many_node_rows}
use Rattle.refusals.specs.Reason as reason
use Rattle.refusals.specs.Reason.{Reason}

abbrev pub of_parse : ParseFault → Reason
of_parse parse.TooLong = reason.TooLong
of_parse (parse.Syntax at) = reason.Syntax at
of_parse parse.TooManyBranches = reason.TooManyBranches
of_parse parse.TooManyItems = reason.TooManyItems
of_parse parse.TooManyKeys = reason.TooManyKeys
of_parse (parse.LimitRange at) = reason.LimitRange at
of_parse parse.NoMemory = reason.NoMemory

abbrev pub of_script : ScriptFault → Reason
of_script script.TooManyLines = reason.TooManyLines
of_script (script.BadLine line) = reason.BadLine line
of_script (script.UnknownCursor line) = reason.UnknownCursor line
of_script (script.CursorExists line) = reason.CursorExists line
of_script (script.TooManyOpen line) = reason.TooManyOpen line
of_script script.NoMemory = reason.NoMemory

abbrev pub of_proof : ProofFault → Reason
of_proof proof.BadHeader = reason.BadProofHeader
of_proof (proof.BadLine line) = reason.BadProofLine line
of_proof (proof.TooManyRows most) = reason.TooManyNodeRows
of_proof (proof.BadBound line) = reason.BadBound line
of_proof (proof.BoundTwice line) = reason.BoundTwice line
of_proof (proof.Weak node) = reason.WeakBound node
of_proof (proof.BadAnswer line) = reason.BadAnswer line
of_proof (proof.Order line) = reason.AnswerOrder line
of_proof proof.Count = reason.AnswerCount
of_proof proof.Missed = reason.MissedAnswer
of_proof proof.NoMemory = reason.NoMemory

-- the branch is told if there are several
abbrev pub of_bind : Option ℕ → BindFault → Reason
of_bind branch (bind.DuplicateAlias item) = reason.DuplicateAlias branch item
of_bind branch (bind.UnknownAlias at) = reason.UnknownAlias at
of_bind branch (bind.UnknownColumn at) = reason.UnknownColumn at
of_bind branch (bind.Ambiguous at) = reason.Ambiguous at
of_bind branch (bind.BadWeight item row column) = reason.BadWeight branch item row column
of_bind branch (bind.RankRange key) = reason.RankRange branch key
of_bind branch bind.NoMemory = reason.NoMemory

abbrev pub of_flaw : List ℕ → Flaw → Reason
of_flaw table no_header = reason.NoHeader table
of_flaw table too_many_columns = reason.TooManyColumns table
of_flaw table (duplicate_name column) = reason.DuplicateName table column
of_flaw table too_many_rows = reason.TooManyTableRows table
of_flaw table (ragged row) = reason.Ragged table row

abbrev pub of_shape : Option ℕ → ShapeFlaw → Reason
of_shape branch (cyclic items) = reason.Cyclic branch items
of_shape branch too_many_node_rows = reason.TooManyNodeRows
