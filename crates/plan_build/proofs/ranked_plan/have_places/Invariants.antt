use Rattle.std.specs.List.{AllWithin}
use Rattle.plan_build.specs.RankedPlan.{HasPlaces}
use Rattle.plan_build.proofs.ranked_plan.have_places.Given as goal

abbrev pub invariant-loop-query : goal.invariant-loop-query
invariant-loop-query l = AllWithin (λ q. HasPlaces q l.sums l.slots) l.queries 0 l.query-index
