use Rattle.std.proofs.Common.{arith, length-take-le}
use borrow.Rule.Slice.PartMut.{take_put}
use Rattle.outer_io.proofs.Moving.{Consumes-in_place}
use Rattle.outer_io.proofs.reading.read_at.Goals as goal

pub returns-clause-front : goal.returns-clause-front
returns-clause-front g c = take_put _ _ c.args.bytes.now _ (omega (arith, c.requires))

pub returns-clause-read : goal.returns-clause-read
returns-clause-read g c =
    Consumes-in_place _ _ c.read_front.result _ c.read_front.new.bytes _ c.args.at (length-take-le _ c.args.bytes.now (omega (arith, c.requires)))
    c.read_front.ensures.bound c.read_front.ensures.read
