use Rattle.std.proofs.Common.{map}
use Rattle.query_bind.specs.Filters.{HaveFilters}
use Rattle.bound_query.specs.FilterViews.{filter_view}
use Rattle.query_bind.specs.Labels.{least_in}
use Rattle.bound_query.specs.StoredParts.{equality_view, items_view}
use Rattle.query_bind.proofs.filters.filters_of.Given as goal

abbrev pub invariant-loop-i : goal.invariant-loop-i
invariant-loop-i l = HaveFilters (least_in l.classes) (map equality_view l.equalities) l.tables (items_view l.items) l.i (map filter_view l.filters.items)
