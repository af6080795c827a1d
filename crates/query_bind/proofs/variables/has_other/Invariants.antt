use Rattle.std.proofs.Common.{◌≡◌, drop}
use Rattle.std.specs.List.{list_any}
use Rattle.bound_query.specs.StoredParts.{column_view}
use Rattle.query_bind.specs.Labels.{least_in}
use Rattle.query_bind.specs.Variables.{is_elsewhere, is_other}
use Rattle.query_bind.specs.declared.classes.Member.{Member}
use Rattle.query_bind.proofs.variables.has_other.Given as goal

abbrev pub invariant-loop-member : goal.invariant-loop-member
invariant-loop-member l =
    list_any (λ (m : Member). is_other (least_in l.classes) (column_view l.least) (column_view m.column)) (drop l.member-index l.classes)
    ≡ is_elsewhere l.classes (column_view l.least)
