use Rattle.std.proofs.Common.{◌≡◌, ◌<◌, ℕ, length, slice_index}
use Rattle.plan_build.proofs.node_rows.rows_of_atoms.Given as goal

abbrev pub invariant-loop-node : goal.invariant-loop-node
invariant-loop-node l = record {
  long : length l.rows_of ≡ 16;
  each : (v : ℕ) → v < l.node → slice_index l.rows_of (slice_index l.tree.atom v) ≡ slice_index l.node_rows v;
}
