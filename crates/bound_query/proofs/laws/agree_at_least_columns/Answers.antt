use Rattle.bound_query.proofs.Least.{least_iff}
use Rattle.bound_query.proofs.laws.agree_at_least_columns.Goals as goal

pub returns : goal.returns
returns c = least_iff
