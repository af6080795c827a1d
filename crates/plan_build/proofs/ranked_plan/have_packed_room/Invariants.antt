use Rattle.std.proofs.Common.{List}
use Rattle.std.specs.List.{All, AllWithin}
use Rattle.anyk_model.specs.Table.{Table}
use Rattle.bound_query.specs.WeighedQuery.{Fits}
use Rattle.plan_build.specs.RankedPlan.{HasRoom, packed_room}
use Rattle.plan_build.proofs.ranked_plan.have_packed_room.Given as goal

abbrev pub invariant-loop-query : goal.invariant-loop-query
invariant-loop-query l =
    (tables : List Table) → All (λ q. Fits q tables) l.queries → AllWithin (λ q. HasRoom q tables (packed_room l.slots)) l.queries 0 l.query-index
