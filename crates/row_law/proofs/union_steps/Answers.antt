use Rattle.row_law.proofs.UnionAccepted.{union_bounded}
use Rattle.row_law.proofs.union_steps.Goals as goal

pub returns : goal.returns
returns c = union_bounded
