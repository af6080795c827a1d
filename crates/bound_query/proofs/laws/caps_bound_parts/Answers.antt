use Rattle.bound_query.proofs.Parts.{caps_add, part_capped}
use Rattle.bound_query.proofs.Range.{caps_fit}
use Rattle.bound_query.proofs.laws.caps_bound_parts.Goals as goal

pub returns-clause-bound : goal.returns-clause-bound
returns-clause-bound c = part_capped

pub returns-clause-sum : goal.returns-clause-sum
returns-clause-sum c = caps_add

pub returns-clause-limit : goal.returns-clause-limit
returns-clause-limit c = caps_fit
