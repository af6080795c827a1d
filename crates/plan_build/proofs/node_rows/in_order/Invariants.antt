use Rattle.std.proofs.Common.{◌≡◌, ◌<◌, ℕ, length, slice_index}
use Rattle.plan_build.proofs.node_rows.in_order.Given as goal

abbrev pub invariant-loop-node : goal.invariant-loop-node
invariant-loop-node l = record {
  counted : length l.moved.items ≡ l.to.count;
  put : (u : ℕ) → u < l.node → slice_index l.moved.items u ≡ slice_index l.rows_of (slice_index l.to.atom u);
}
