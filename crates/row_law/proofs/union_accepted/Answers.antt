use Rattle.row_law.proofs.UnionAccepted.{union_found, union_verdict}
use Rattle.row_law.proofs.union_accepted.Goals as goal

pub returns : goal.returns
returns c = (union_found, union_verdict)
