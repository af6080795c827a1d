use Rattle.std.proofs.Common.{◌≡◌, Err, rules}
use Rattle.refusals.specs.Pieces.{text_of_piece}
use Rattle.refusals.proofs.Pieces.{Sent-cut}
use Rattle.refusals.proofs.piece.write_pieces.Goals as goal

pub returns-in_err-write_piece : goal.returns-in_err-write_piece
returns-in_err-write_piece g c =
    let e : c.from_residual.result ≡ Err c.in_err-write_piece.field-0.0 = search rules in
    rw e (Sent-cut text_of_piece _ _ _ _ _ _ _ c.loop-piece.invariant.sent c.loop-piece.invariant.faults c.loop-piece-test.true c.in_err-write_piece.ensures)
