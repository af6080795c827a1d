use Rattle.anyk_model.proofs.Unions.{union_unique}
use Rattle.anyk_model.proofs.union_laws.one_union.Goals as goal

pub returns : goal.returns
returns c = union_unique
