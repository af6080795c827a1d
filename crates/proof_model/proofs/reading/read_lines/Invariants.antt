use Rattle.std.proofs.Common.{◌≡◌, length}
use Rattle.std.specs.Str.Lines.{lines}
use Rattle.proof_model.specs.Reading.{no_lines, read_from}
use Rattle.proof_model.specs.ProofView.{lines_of}
use Rattle.proof_model.proofs.reading.read_lines.Given as goal

abbrev pub invariant-lines : goal.invariant-lines
invariant-lines l = read_from l.number (lines_of l.read) (lines l.rest) ≡ read_from 2 no_lines (lines l.bytes)

abbrev pub decreases-lines : goal.decreases-lines
decreases-lines l = length l.rest
