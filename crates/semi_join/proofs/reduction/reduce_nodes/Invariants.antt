use Rattle.std.proofs.Common.{◌≡◌, ◌≤◌, ◌<◌, ℕ, ◌+◌, ◌-◌, ◌*◌, map, length, drop, sum_by}
use Rattle.tdp_core.specs.RawView.{IsRawFormed, rows_at}
use Rattle.tdp_core.specs.TreeView.{node_view}
use Rattle.semi_join.specs.Reduction.{AreFew, links_of}
use Rattle.semi_join.proofs.FromLast.{AreReducedLast, links_last}
use Rattle.semi_join.proofs.reduction.reduce_nodes.Given as goal

abbrev pub invariant-loop-node : goal.invariant-loop-node
invariant-loop-node g l = record {
  formed : IsRawFormed g.R.Rank.KEYS g.R.Rank.key l.tree;
  shapes : l.tree.shapes ≡ l.fn.tree.shapes;
  rows : (v : ℕ) → v < l.node → rows_at l.tree v ≡ rows_at l.fn.tree v;
  reduced : AreReducedLast l.fn.tree (length l.fn.tree.shapes - l.node) (map node_view l.nodes.items);
  links : map links_of l.later.items ≡ links_last l.fn.tree (length l.fn.tree.shapes - l.node);
  few : AreFew (map links_of l.later.items);
  count : l.node + length l.later.items ≡ length l.fn.tree.shapes;
  counted : l.steps ≤ l.initial.steps + sum_by length (drop l.node l.fn.tree.rows) * length l.fn.tree.shapes;
}
