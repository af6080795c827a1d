use Rattle.tdp_model.proofs.KeyTuples.{tuple_keys}
use Rattle.tdp_model.proofs.tree_laws.keys_are_ordered.Goals as goal

pub returns : goal.returns
returns c = tuple_keys
