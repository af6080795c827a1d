use Rattle.std.proofs.Common.{◌≤◌, take}
use Rattle.std.specs.Io.KnownBytes.{Appends}
use Rattle.refusals.specs.Pieces.{text_of_pieces}
use Rattle.refusals.proofs.piece.write_pieces.Given as goal

abbrev pub invariant-loop-piece : goal.invariant-loop-piece
invariant-loop-piece g l = record {
  sent : Appends (g.E.Sink.written l.initial.err) (g.E.Sink.written l.err) (text_of_pieces (take l.piece-index l.pieces));
  faults : g.E.Sink.faults l.initial.err ≤ g.E.Sink.faults l.err;
}
