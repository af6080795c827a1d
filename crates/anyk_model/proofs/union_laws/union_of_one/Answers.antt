use Rattle.anyk_model.proofs.Unions.{one_branch}
use Rattle.anyk_model.proofs.union_laws.union_of_one.Goals as goal

pub returns : goal.returns
returns c = one_branch
