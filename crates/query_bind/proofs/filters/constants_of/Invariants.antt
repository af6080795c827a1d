use Rattle.std.proofs.Common.{map, take}
use Rattle.bound_query.specs.FilterViews.{constant_view}
use Rattle.query_bind.specs.Filters.{HaveConstants}
use Rattle.query_bind.specs.Labels.{least_in}
use Rattle.bound_query.specs.StoredParts.{equality_view}
use Rattle.query_bind.proofs.filters.constants_of.Given as goal

abbrev pub invariant-loop-equality : goal.invariant-loop-equality
invariant-loop-equality l =
    HaveConstants (least_in l.classes) l.item l.width (map equality_view (take l.equality-index l.equalities)) (map constant_view l.constants.items)
