use Rattle.row_law.proofs.Accepted.{row_found, row_verdict}
use Rattle.row_law.proofs.row_accepted.Goals as goal

pub returns : goal.returns
returns c = (row_found, row_verdict)
