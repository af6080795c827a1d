use Rattle.anyk_model.proofs.Unions.{rankings_union}
use Rattle.anyk_model.proofs.union_laws.left_is_union.Goals as goal

pub returns : goal.returns
returns c = rankings_union
