use Rattle.std.proofs.Common.{◌+◌, ◌*◌, ◌≤◌, length}
use Rattle.suffix_streams.specs.StreamView.{IsNextHead}
use Rattle.suffix_streams.specs.TreeStreams.{lists_of}
use Rattle.suffix_streams.specs.Beginnings.{IsBegunIn}
use Rattle.suffix_streams.proofs.beginning.begin_node.Given as goal

-- the first streams of the node are there, and the next head comes after theirs
abbrev pub invariant-loop-group : goal.invariant-loop-group
invariant-loop-group g l = record {
  begun : IsBegunIn g.R.Rank.KEYS g.R.Rank.key l.fn.tree l.entries.entries l.nodes.items l.fn.node l.group;
  heads : IsNextHead (lists_of l.nodes.items l.fn.node).streams (length l.entries.entries);
  cost : l.steps ≤ l.initial.steps + 5 * l.group;
}
