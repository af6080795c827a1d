use Rattle.std.proofs.Common.{map}
use Rattle.query_bind.specs.Labels.{least_in}
use Rattle.bound_query.specs.StoredParts.{column_view, items_view, lists_view}
use Rattle.query_bind.specs.Variables.{HavePlacesEach}
use Rattle.query_bind.proofs.variables.places_of_all.Given as goal

abbrev pub invariant-loop-i : goal.invariant-loop-i
invariant-loop-i l = HavePlacesEach (least_in l.classes) (map column_view l.variables) l.tables (items_view l.items) l.i (lists_view l.of_items.items)
