use Rattle.std.proofs.Common.{◌-◌, map, take}
use Rattle.anyk_model.specs.Table.{field_at, table_at}
use Rattle.bound_query.specs.FilterViews.{constant_view}
use Rattle.bound_query.specs.Filters.{HasConstants}
use Rattle.bound_query.proofs.filters.has_constants.Given as goal

abbrev pub invariant-loop-constant : goal.invariant-loop-constant
invariant-loop-constant l = HasConstants (field_at (table_at l.tables l.table) (l.row - 1)) (map constant_view (take l.constant-index l.constants))
