use Rattle.std.proofs.Common.{map}
use Rattle.query_bind.specs.Labels.{least_in}
use Rattle.bound_query.specs.StoredParts.{column_view}
use Rattle.query_bind.specs.Variables.{HavePlaces}
use Rattle.query_bind.proofs.variables.places_of.Given as goal

abbrev pub invariant-loop-number : goal.invariant-loop-number
invariant-loop-number l = HavePlaces (least_in l.classes) (map column_view l.variables) l.item l.width l.number l.places.items
