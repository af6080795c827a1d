use Rattle.std.proofs.Common.{append-nil}
use Rattle.refusals.proofs.line.write_in_table.Goals as goal

pub returns : goal.returns
returns g c = rw (append-nil c.args.after.now) at c.write_pieces.ensures
