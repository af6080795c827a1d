use Rattle.std.proofs.Common.{◌≡◌, [], replicate}
use Rattle.bound_query.specs.WeighedView.{weighed_view}
use Rattle.query_bind.proofs.weighing.no_weights.Given as goal

abbrev pub invariant-loop : goal.invariant-loop
invariant-loop l = weighed_view l.items ≡ replicate l.counter (record { cap = 0; parts = [] })
