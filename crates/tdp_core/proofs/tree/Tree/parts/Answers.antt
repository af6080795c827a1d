use Rattle.std.proofs.Common.{◌≡◌, ◌<◌, length, ap, subst, arith}
use Rattle.std.proofs.lemmas.List.{length-map}
use Rattle.tdp_core.specs.TreeView.{node_view, tree_view, node_at}
use Rattle.tdp_core.specs.WellFormed.{IsFormed}
use Rattle.tdp_core.proofs.NodeViews.{node_is}
use Rattle.tdp_core.proofs.tree.Tree.parts.Goals as goal

pub index-requires : goal.index-requires
index-requires g c = omega (arith, c.requires, ap length c.self.view_is, length-map c.self.inside.nodes.items node_view, c.self.inside.nodes.ok.0)

pub returns : goal.returns
returns g c =
    let parts = c.self.inside.nodes.items in
    let t = tree_view parts in
    let v = c.args.node in
    let node = c.index.result.now in
    let in_tree : v < length t = rw c.self.view_is c.requires in
    let at : node_at t v ≡ node_view node = node_is parts v node (omega (arith, length-map parts node_view)) c.index.ensures in
    record { read = rw (← c.self.view_is) at; formed = subst (IsFormed g.R.Rank.KEYS g.R.Rank.key) c.self.view_is c.self.invariant }
