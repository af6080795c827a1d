use Rattle.std.proofs.Common.{◌≡◌, ℕ, ◌<◌, length}
use Rattle.suffix_streams.specs.TreeStreams.{lists_of}
use Rattle.suffix_streams.specs.Beginnings.{IsEmptyNode}
use Rattle.suffix_streams.proofs.beginning.add_empty_nodes.Given as goal

-- the first nodes are there
abbrev pub invariant-loop-node : goal.invariant-loop-node
invariant-loop-node g l = record {
  count : length l.nodes.items ≡ l.node;
  empty : (v : ℕ) → v < l.node → IsEmptyNode l.fn.tree v (lists_of l.nodes.items v);
}
