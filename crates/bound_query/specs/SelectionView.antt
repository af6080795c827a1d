-- What contracts see of a stored query.
use Rattle.std.specs.Prelude.{◌≤◌, map, length}
use Rattle.anyk_model.specs.Query.{Query}
use Rattle.bound_query.specs.StoredParts.{column_view, equality_view, items_view, key_view}
use Rattle.bound_query.specs.declared.selection.Selection.TheInside.{Inside}

abbrev pub selection_view : Inside → Query
selection_view q = record {
  items = items_view q.items.items;
  equalities = map equality_view q.equalities.items;
  order = map key_view q.keys.items;
  list = map column_view q.list.items;
  limit = q.limit;
}

pub record IsSmall (q : Inside) : Type 0 where
  pub items : length q.items.items ≤ 16
  pub keys : length q.keys.items ≤ 8
