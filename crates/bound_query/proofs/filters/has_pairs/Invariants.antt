use Rattle.std.proofs.Common.{◌-◌, take}
use Rattle.anyk_model.specs.Table.{field_at, table_at}
use Rattle.bound_query.specs.Filters.{HasEqual}
use Rattle.bound_query.proofs.filters.has_pairs.Given as goal

abbrev pub invariant-loop-first : goal.invariant-loop-first
invariant-loop-first l = HasEqual (field_at (table_at l.tables l.table) (l.row - 1)) (take l.first-index l.pairs)
