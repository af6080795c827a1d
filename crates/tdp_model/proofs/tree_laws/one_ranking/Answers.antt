use Rattle.tdp_model.specs.KeyTuple.{key_below}
use Rattle.tdp_model.proofs.KeyTuples.{tuple_keys}
use Rattle.rankings.proofs.Unique.{ranking_unique}
use Rattle.tdp_model.proofs.tree_laws.one_ranking.Goals as goal

pub returns : goal.returns
returns c = λ d e t xs ys a b. ranking_unique (key_below d e) (tuple_keys d e).order _ xs ys a b
