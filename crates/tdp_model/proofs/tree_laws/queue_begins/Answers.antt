use Rattle.tdp_model.specs.KeyTuple.{key_below, key_add, key_none}
use Rattle.tdp_model.proofs.KeyTuples.{tuple_keys}
use Rattle.tdp_model.proofs.Begin.{part_begins}
use Rattle.tdp_model.proofs.tree_laws.queue_begins.Goals as goal

pub returns : goal.returns
returns c = λ d e n t ks p h.
    part_begins (key_below d e) (key_add d e) (key_none d e) (tuple_keys d e) t.nodes t.parent t.rank t.group t.best _ t.formed t.item t.number t.slot t.tie_free n ks p h
