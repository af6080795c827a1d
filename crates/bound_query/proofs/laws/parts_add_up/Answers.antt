use Rattle.bound_query.proofs.Parts.{parts_add}
use Rattle.bound_query.proofs.laws.parts_add_up.Goals as goal

pub returns : goal.returns
returns c = parts_add
