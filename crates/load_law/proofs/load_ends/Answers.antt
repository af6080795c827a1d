use Rattle.load_law.proofs.Accepted.{ends}
use Rattle.load_law.proofs.load_ends.Goals as goal

pub returns : goal.returns
returns c = ends
