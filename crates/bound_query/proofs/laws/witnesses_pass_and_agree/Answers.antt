use Rattle.bound_query.proofs.Witness.{witness_iff}
use Rattle.bound_query.proofs.laws.witnesses_pass_and_agree.Goals as goal

pub returns : goal.returns
returns c = witness_iff
