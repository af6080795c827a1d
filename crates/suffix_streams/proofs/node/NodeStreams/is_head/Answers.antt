use Rattle.std.proofs.Common.{◌↔◌, ◌+◌, ◌<◌, ◌≤◌, IsTrue, subst}
use Rattle.suffix_streams.proofs.NodeFacts.{head_named}
use Rattle.suffix_streams.proofs.node.NodeStreams.is_head.Goals as goal

pub returns : goal.returns
returns g c =
    head_named c.self.inside.children.items c.self.inside.heads.first c.self.inside.streams.items c.self.inside.products c.args.self.now c.self.view_is c.args.entry c.contains.result
    (subst (λ n. IsTrue c.contains.result ↔ ((c.self.inside.heads.first ≤ c.args.entry) × (c.args.entry < c.self.inside.heads.first + n))) c.self.invariant c.contains.ensures)
