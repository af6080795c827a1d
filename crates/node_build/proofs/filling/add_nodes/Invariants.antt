use Rattle.std.proofs.Common.{◌≡◌, ◌≤◌, ◌+◌, ◌*◌, length, take}
use Rattle.std.specs.List.{sum_by}
use Rattle.node_build.specs.PartialTrees.{AreFilled}
use Rattle.node_build.specs.Rows.{lists_of}
use Rattle.node_build.proofs.filling.add_nodes.Given as goal

abbrev pub invariant-loop-node : goal.invariant-loop-node
invariant-loop-node g l = record {
  shapes : l.tree.shapes ≡ l.initial.tree.shapes;
  count : length l.links ≡ l.source.join.now.count;
  filled : AreFilled l.source.query.now l.source.tables.now l.source.join.now (lists_of l.source.columns.now.own.items) (lists_of l.source.columns.now.above.items) g.R.Rank.KEYS g.R.Rank.key l.links l.node (lists_of l.rows) l.tree;
  cost : l.steps ≤ l.initial.steps + sum_by length (take l.node (lists_of l.rows)) * l.source.join.now.count;
}
