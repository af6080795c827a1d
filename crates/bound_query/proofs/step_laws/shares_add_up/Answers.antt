use Rattle.bound_query.proofs.Shares.{shares}
use Rattle.bound_query.proofs.step_laws.shares_add_up.Goals as goal

pub returns : goal.returns
returns c = shares
