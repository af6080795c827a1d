use Rattle.std.proofs.Common.{◌≡◌, take}
use Rattle.anyk_model.specs.Table.{table_at}
use Rattle.node_build.specs.Links.{values_in}
use Rattle.node_build.proofs.table_row.TableRow.values.Given as goal

abbrev pub invariant-loop-column : goal.invariant-loop-column
invariant-loop-column l = l.values.items ≡ values_in l.self.tables.now (table_at l.self.tables.now l.self.table) l.self.row (take l.column-index l.columns)
