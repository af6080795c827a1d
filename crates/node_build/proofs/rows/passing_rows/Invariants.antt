use Rattle.std.proofs.Common.{◌+◌, ◌≤◌, length}
use Rattle.node_build.proofs.Passing.{ArePassingBelow}
use Rattle.node_build.proofs.rows.passing_rows.Given as goal

abbrev pub invariant-loop-row : goal.invariant-loop-row
invariant-loop-row l = record {
  few : length l.rows.items + 1 ≤ l.row;
  rows : ArePassingBelow l.query.query l.tables l.item l.row l.rows.items;
}
