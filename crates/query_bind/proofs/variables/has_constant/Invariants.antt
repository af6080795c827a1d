use Rattle.std.proofs.Common.{◌≡◌, drop}
use Rattle.std.specs.List.{list_any}
use Rattle.bound_query.specs.StoredParts.{column_view, equality_view}
use Rattle.bound_query.specs.declared.bound.BoundEquality.{BoundEquality}
use Rattle.query_bind.specs.Labels.{least_in}
use Rattle.query_bind.specs.Variables.{is_fixed, is_fixing}
use Rattle.query_bind.proofs.variables.has_constant.Given as goal

abbrev pub invariant-loop-equality : goal.invariant-loop-equality
invariant-loop-equality l =
    list_any (λ (e : BoundEquality). is_fixing (least_in l.classes) (column_view l.least) (equality_view e)) (drop l.equality-index l.equalities)
    ≡ is_fixed l.classes l.equalities (column_view l.least)
