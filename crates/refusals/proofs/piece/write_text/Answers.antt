use Rattle.refusals.proofs.Sending.{Sent-written}
use Rattle.refusals.proofs.piece.write_text.Goals as goal

pub returns : goal.returns
returns g c = Sent-written _ _ _ _ c.write_all.ensures.all c.write_all.ensures.part c.write_all.ensures.cause c.write_all.ensures.faults
