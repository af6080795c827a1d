use Rattle.std.proofs.Common.{sym, ◌∙◌, arith}
use Rattle.suffix_streams.proofs.NodeFacts.{in_queues, head_read}
use Rattle.suffix_streams.proofs.node.NodeStreams.head.Goals as goal

pub get-requires : goal.get-requires
get-requires g c = record { place = omega (arith, c.self.invariant, in_queues _ c.self.inside.heads.first c.self.inside.streams.items _ c.args.self.now c.self.view_is c.args.group c.requires.group) }

pub returns : goal.returns
returns g c = c.get.ensures.entry ∙ sym (head_read _ c.self.inside.heads.first c.self.inside.streams.items _ c.args.self.now c.self.view_is c.args.group c.requires.group)
