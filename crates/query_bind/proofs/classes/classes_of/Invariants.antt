use Rattle.std.proofs.Common.{take, map}
use Rattle.query_bind.specs.Labels.{IsLabelling, least_in}
use Rattle.bound_query.specs.StoredParts.{equality_view}
use Rattle.query_bind.proofs.classes.classes_of.Given as goal

abbrev pub invariant-loop-equality : goal.invariant-loop-equality
invariant-loop-equality l = IsLabelling (map equality_view (take l.equality-index l.equalities)) (least_in l.classes.items)
