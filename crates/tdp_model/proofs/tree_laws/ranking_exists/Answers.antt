use Rattle.std.proofs.Common.{suc, arith}
use Rattle.rankings.specs.Order.{ranked}
use Rattle.tdp_model.specs.KeyTuple.{key_below, key_add, key_none}
use Rattle.tdp_model.proofs.KeyTuples.{tuple_keys}
use Rattle.tdp_model.proofs.Begin.{ranking_of_root}
use Rattle.tdp_model.proofs.Enumeration.{group_keys, group_ranking}
use Rattle.tdp_model.proofs.tree_laws.ranking_exists.Goals as goal

pub returns : goal.returns
returns c = λ d e n t some.
    let keys = tuple_keys d e in
    let ks = ranked (key_below d e) keys.order (group_keys (key_below d e) (key_add d e) (key_none d e) keys t.nodes t.parent t.rank t.group (suc t.nodes) 0 0) in
    let of_root = group_ranking (key_below d e) (key_add d e) (key_none d e) keys t.nodes t.parent t.rank t.group (suc t.nodes) 0 0 (omega arith) in
    (ks, ranking_of_root (key_below d e) (key_add d e) (key_none d e) keys t.nodes t.parent t.rank t.group t.best _ t.formed t.item t.number t.slot t.tie_free n t.nodes ks some (omega arith) of_root)
