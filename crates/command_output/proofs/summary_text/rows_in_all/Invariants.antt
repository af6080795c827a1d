use Rattle.std.proofs.Common.{◌≡◌, ◌*◌, ◌≤◌, take}
use Rattle.output_model.specs.Summary.{rows_in_all}
use Rattle.command_output.proofs.summary_text.rows_in_all.Given as goal

abbrev pub invariant-loop-table : goal.invariant-loop-table
invariant-loop-table l = record {
  sum : l.sum ≡ rows_in_all (take l.table l.tables);
  small : l.sum ≤ l.table * 1048576;
}
