use Rattle.std.proofs.Common.{◌≡◌, ◌≤◌, ◌*◌, take}
use Rattle.anyk_model.specs.Query.{row_counts}
use Rattle.bound_query.specs.KeyParts.{sum_of_all}
use Rattle.plan_build.proofs.plan.rows_of_tables.Given as goal

abbrev pub invariant-loop-item : goal.invariant-loop-item
invariant-loop-item l = record {
  summed : l.rows ≡ sum_of_all (take l.item (row_counts l.query.query.items l.tables));
  few : l.rows ≤ l.item * 1048576;
}
