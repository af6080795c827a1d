use Rattle.witness_key.proofs.TreeWitnesses.{links_iff}
use Rattle.witness_key.proofs.tree_laws.links_make_witnesses.Goals as goal

pub returns : goal.returns
returns c = λ query tables graph atoms parents rows within of_query tree. links_iff query tables graph atoms parents
    of_query tree rows within
