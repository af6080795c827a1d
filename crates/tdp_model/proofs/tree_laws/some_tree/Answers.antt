use Rattle.tdp_model.proofs.Example.{example, example_nodes}
use Rattle.tdp_model.proofs.tree_laws.some_tree.Goals as goal

pub returns : goal.returns
returns c = (example, example_nodes)
