use Rattle.witness_key.proofs.TreeWitnesses.{nodes_add}
use Rattle.witness_key.proofs.tree_laws.keys_add_up.Goals as goal

pub returns : goal.returns
returns c = λ query tables graph atoms parents rows d within of_query tree count. nodes_add query tables graph atoms
    parents of_query tree rows d within count
