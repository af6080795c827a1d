use Rattle.suffix_streams.specs.StreamsView.{StreamsView}
use Rattle.suffix_streams.proofs.ViewCalls.{head_seen}
use Rattle.suffix_streams.proofs.streams.Streams.head.Goals as goal

pub returns : goal.returns
returns g c =
    let s = c.self.inside.solutions in
    let view : StreamsView g.row.R.Denot = record { tree = s.tree.now; entries = s.entries.entries; nodes = s.nodes.items; calls = c.self.inside.calls } in
    record {
      group = (head_seen g.R.Rank.KEYS g.R.Rank.key view c.args.self.now c.self.view_is c.self.invariant.streams c.args.node c.args.group c.head.result c.index.result.now c.requires.node c.requires.group c.index.ensures c.head.ensures).2;
      node = (head_seen g.R.Rank.KEYS g.R.Rank.key view c.args.self.now c.self.view_is c.self.invariant.streams c.args.node c.args.group c.head.result c.index.result.now c.requires.node c.requires.group c.index.ensures c.head.ensures).1;
      within = (head_seen g.R.Rank.KEYS g.R.Rank.key view c.args.self.now c.self.view_is c.self.invariant.streams c.args.node c.args.group c.head.result c.index.result.now c.requires.node c.requires.group c.index.ensures c.head.ensures).0;
      place = (head_seen g.R.Rank.KEYS g.R.Rank.key view c.args.self.now c.self.view_is c.self.invariant.streams c.args.node c.args.group c.head.result c.index.result.now c.requires.node c.requires.group c.index.ensures c.head.ensures).3;
      entry = (head_seen g.R.Rank.KEYS g.R.Rank.key view c.args.self.now c.self.view_is c.self.invariant.streams c.args.node c.args.group c.head.result c.index.result.now c.requires.node c.requires.group c.index.ensures c.head.ensures).4;
    }
