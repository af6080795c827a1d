use Rattle.anyk_model.proofs.Keys.{keys_agree_lem}
use Rattle.anyk_model.proofs.union_laws.keys_agree.Goals as goal

pub returns : goal.returns
returns c = keys_agree_lem
