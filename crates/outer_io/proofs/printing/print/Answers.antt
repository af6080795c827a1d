use Rattle.outer_io.proofs.Prints.{unwritten, written}
use Rattle.outer_io.proofs.printing.print.Goals as goal

pub returns-in-Ok : goal.returns-in-Ok
returns-in-Ok g c = written _ _ _ c.in-Ok.ensures.all c.write_all.ensures.faults

pub returns-in-Err : goal.returns-in-Err
returns-in-Err g c = unwritten _ _ c.in-Err.field-0.taken _ c.in-Err.ensures.part c.in-Err.ensures.cause c.write_all.ensures.faults
