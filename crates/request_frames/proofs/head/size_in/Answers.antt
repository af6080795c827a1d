use Rattle.std.proofs.Common.{rules}
use Rattle.request_frames.proofs.Heads.{size_of_head}
use Rattle.request_frames.proofs.head.size_in.Goals as goal

pub returns : goal.returns
returns c = size_of_head c.args.head.now c.number_in.result c.requires (search rules) c.number_in.ensures
