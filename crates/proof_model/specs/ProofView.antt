-- What contracts see of a certificate that was read.
use Rattle.std.specs.Prelude.{map}
use Rattle.proof_model.specs.declared.proof.Proof.{Proof}
use Rattle.proof_model.specs.declared.proof.Bound.{Bound}
use Rattle.proof_model.specs.declared.proof.Listed.{Listed}
use Rattle.proof_model.specs.declared.line.Line.{Line}
use Rattle.proof_model.specs.declared.line.Line.TheVariants as line
use Rattle.proof_model.specs.Certificate.{BoundLine, AnswerLine, Certificate}
use Rattle.proof_model.specs.Forms.{LineForm, bound, answer, last}
use Rattle.proof_model.specs.Reading.{Lines}

abbrev pub bound_view : Bound → BoundLine
bound_view b = record { line = b.line; node = b.node; rows = b.rows.items }

abbrev pub listed_view : Listed → AnswerLine
listed_view a = record { line = a.line; rows = a.rows.items }

abbrev pub proof_view : Proof → Certificate
proof_view p =
    record {
      bounds = map bound_view p.bounds.items;
      answers = map listed_view p.answers.items;
      ended = p.ended;
    }

-- what was read so far
abbrev pub lines_of : Proof → Lines
lines_of p = record
    { bounds = map bound_view p.bounds.items; answers = map listed_view p.answers.items }

-- what a line that was read says
abbrev pub line_view : Line → LineForm
line_view (line.Bound node rows) = bound node rows.items
line_view (line.Answer rows) = answer rows.items
line_view (line.Last ended) = last ended
