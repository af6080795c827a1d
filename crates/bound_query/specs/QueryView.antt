-- What contracts see of a stored query.
use Rattle.std.specs.Prelude.{map}
use Rattle.bound_query.specs.FilterViews.{filter_view}
use Rattle.bound_query.specs.StoredParts.{column_view, lists_view}
use Rattle.bound_query.specs.WeighedQuery.{BoundQuery}
use Rattle.bound_query.specs.WeighedView.{weighed_view}
use Rattle.bound_query.specs.declared.query.Query.TheInside.{Inside}

abbrev pub query_view : Inside → BoundQuery
query_view q = record {
  query = q.selection;
  weighed = map weighed_view q.weighed.items;
  variables = map column_view q.variables.least.items;
  lists = lists_view q.variables.of_items.items;
  filters = map filter_view q.filters.items;
}
