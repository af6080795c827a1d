use Rattle.load_law.proofs.Accepted.{accepted}
use Rattle.load_law.proofs.load_accepted.Goals as goal

pub returns : goal.returns
returns c = accepted
