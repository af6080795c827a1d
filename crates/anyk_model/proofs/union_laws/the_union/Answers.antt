use Rattle.anyk_model.proofs.Unions.{union_is}
use Rattle.anyk_model.proofs.union_laws.the_union.Goals as goal

pub returns : goal.returns
returns c = union_is
