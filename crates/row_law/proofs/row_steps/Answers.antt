use Rattle.row_law.proofs.Accepted.{row_bounded}
use Rattle.row_law.proofs.row_steps.Goals as goal

pub returns : goal.returns
returns c = row_bounded
