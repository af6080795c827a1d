use Rattle.tdp_model.specs.KeyTuple.{key_below, key_add, key_none}
use Rattle.tdp_model.proofs.KeyTuples.{tuple_keys}
use Rattle.tdp_model.proofs.TreeStaged.{tree_staged}
use Rattle.tdp_model.proofs.PartNext.{part_keeps}
use Rattle.tdp_model.proofs.tree_laws.queue_goes_on.Goals as goal

pub returns : goal.returns
returns c = λ d e t r others ks q l.
    part_keeps (key_below d e) (tuple_keys d e).order _ _ _
    (tree_staged (key_below d e) (key_add d e) (key_none d e) (tuple_keys d e) t.nodes t.parent t.rank t.group t.best _ t.formed) r others ks q l
