use Rattle.std.proofs.Common.{◌≡◌, ◌<◌, length, subst, ap, arith}
use Rattle.std.proofs.lemmas.List.{length-map}
use Rattle.tdp_core.specs.TreeView.{node_view, tree_view, node_at}
use Rattle.tdp_core.specs.WellFormed.{IsFormed}
use Rattle.tdp_core.proofs.NodeViews.{node_is, some_read}
use Rattle.tdp_core.proofs.tree.Tree.live.Goals as goal

pub returns-clause-live : goal.returns-clause-live
returns-clause-live g c =
    let parts = c.self.inside.nodes.items in
    let t = tree_view parts in
    let node = c.index.result.now in
    let some : 0 < length t = omega (arith, c.self.invariant.shaped.some_node) in
    let at : node_at t 0 ≡ node_view node = node_is parts 0 node (omega (arith, some, length-map parts node_view)) c.index.ensures in
    rw (← c.self.view_is) (some_read t 0 node at c.is_empty.result c.is_empty.ensures)

pub index-requires : goal.index-requires
index-requires g c = omega (arith, c.self.invariant.shaped.some_node, ap length c.self.view_is, length-map c.self.inside.nodes.items node_view, c.self.inside.nodes.ok.0)

pub returns-clause-formed : goal.returns-clause-formed
returns-clause-formed g c = subst (IsFormed g.R.Rank.KEYS g.R.Rank.key) c.self.view_is c.self.invariant
