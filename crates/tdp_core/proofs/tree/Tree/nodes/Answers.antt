use Rattle.std.proofs.Common.{length, subst, ap, arith}
use Rattle.std.proofs.lemmas.List.{length-map}
use Rattle.tdp_core.specs.TreeView.{node_view}
use Rattle.tdp_core.specs.WellFormed.{IsFormed}
use Rattle.tdp_core.proofs.tree.Tree.nodes.Goals as goal

pub overflow_cast-result : goal.overflow_cast-result
overflow_cast-result g c = omega (arith, c.self.invariant.shaped.few_nodes, length-map c.self.inside.nodes.items node_view, c.self.inside.nodes.ok.0, c.len.ensures)

pub returns-clause-count : goal.returns-clause-count
returns-clause-count g c = omega (arith, ap length c.self.view_is, length-map c.self.inside.nodes.items node_view, c.self.inside.nodes.ok.0, c.len.ensures)

pub returns-clause-formed : goal.returns-clause-formed
returns-clause-formed g c = subst (IsFormed g.R.Rank.KEYS g.R.Rank.key) c.self.view_is c.self.invariant
