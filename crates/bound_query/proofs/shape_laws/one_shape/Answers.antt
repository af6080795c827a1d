use Rattle.bound_query.proofs.OneShape.{one_shape}
use Rattle.bound_query.proofs.shape_laws.one_shape.Goals as goal

pub returns : goal.returns
returns c = one_shape
