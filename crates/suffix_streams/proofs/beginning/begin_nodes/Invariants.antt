use Rattle.std.proofs.Common.{◌+◌, ◌*◌, ◌≤◌, length}
use Rattle.suffix_streams.specs.Beginnings.{IsBegunFrom}
use Rattle.suffix_streams.proofs.BeginNodes.{rows_from}
use Rattle.suffix_streams.proofs.beginning.begin_nodes.Given as goal

-- the streams of the nodes from `node` are there
abbrev pub invariant-loop-node : goal.invariant-loop-node
invariant-loop-node g l = record {
  begun : IsBegunFrom g.R.Rank.KEYS g.R.Rank.key l.fn.tree l.entries.entries l.nodes.items l.node;
  cost : l.steps ≤ l.initial.steps + 5 * rows_from g.R.Rank.KEYS g.R.Rank.key l.fn.tree l.node;
  within : l.node ≤ length l.fn.tree;
}
