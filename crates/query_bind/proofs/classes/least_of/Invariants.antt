use Rattle.std.proofs.Common.{◌≡◌, drop}
use Rattle.query_bind.specs.Labels.{least_in, listed}
use Rattle.bound_query.specs.StoredParts.{column_view}
use Rattle.query_bind.proofs.classes.least_of.Given as goal

abbrev pub invariant-loop-member : goal.invariant-loop-member
invariant-loop-member l = listed (drop l.member-index l.classes) (column_view l.column) (column_view l.column) ≡ least_in l.classes (column_view l.column)
