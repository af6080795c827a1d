use Rattle.std.proofs.Common.{◌≡◌, ◌≤◌, ◌+◌, ◌-◌, ℕ, map, length, take}
use Rattle.std.specs.Vec.{vec_capacity}
use Rattle.anyk_model.specs.Table.{field_at, table_at}
use Rattle.table_store.specs.Values.{number_of}
use Rattle.node_build.proofs.table_row.TableRows.values.Given as goal

abbrev pub invariant-loop-row : goal.invariant-loop-row
invariant-loop-row g l = record {
  values : l.values.items ≡ map (λ (row : ℕ). number_of l.self.tables.now (field_at (table_at l.self.tables.now l.self.table) (row - 1) l.column)) (take l.row-index l.self.rows.now);
  long : l.values.len ≡ l.row-index;
  room : length l.self.rows.now ≤ vec_capacity l.values;
  cost : l.steps ≤ l.initial.steps + l.row-index;
}
