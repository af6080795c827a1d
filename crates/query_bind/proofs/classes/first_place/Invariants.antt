use Rattle.query_bind.specs.Labels.{HasNoPlace, least_in}
use Rattle.bound_query.specs.StoredParts.{column_view}
use Rattle.query_bind.proofs.classes.first_place.Given as goal

abbrev pub invariant-loop-place : goal.invariant-loop-place
invariant-loop-place l = HasNoPlace (least_in l.classes) l.item l.place (column_view l.least)
