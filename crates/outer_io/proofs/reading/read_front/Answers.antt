use Rattle.outer_io.proofs.Moving.{ReadConsumes-told}
use Rattle.outer_io.proofs.reading.read_front.Goals as goal

pub returns-clause-told : goal.returns-clause-told
returns-clause-told g c = ReadConsumes-told _ _ c.read.result _ c.read.ensures.bytes
