use Rattle.std.proofs.Common.{◌≡◌, ℕ, filter, take}
use Rattle.bound_query.specs.StoredParts.{column_view}
use Rattle.query_bind.specs.Variables.{is_variable}
use Rattle.query_bind.proofs.variables.find_variables.Given as goal

abbrev pub invariant-loop-column : goal.invariant-loop-column
invariant-loop-column l =
    l.variables.items ≡ filter (λ (c : ℕ × ℕ). is_variable l.classes l.equalities (column_view c)) (take l.column-index l.columns)
