use Rattle.outer_io.proofs.Places.{placed}
use Rattle.outer_io.proofs.mem_files.place_of.Goals as goal

pub returns : goal.returns
returns c = placed c.args.files.now c.args.name.now _ c.first_named.ensures
