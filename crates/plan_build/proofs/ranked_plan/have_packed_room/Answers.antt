use Rattle.std.proofs.Common.{◌≡◌, ◌<◌, ◌≤◌, refl, sym, ◌∙◌, subst, arith}
use Rattle.std.proofs.lemmas.List.Elements.{AllWithin-more, at_read}
use Rattle.bound_query.specs.WeighedQuery.{Fits}
use Rattle.plan_build.specs.RankedPlan.{HasRoom, packed_room}
use Rattle.plan_build.proofs.ranked_plan.have_packed_room.Goals as goal

pub loop-query-preserved : goal.loop-query-preserved
loop-query-preserved c tables fits =
    let queries = c.args.queries.now in
    let here = c.loop-query.query-index in
    let query = c.query-item.result in
    let fit : Fits query tables = subst (λ q. Fits q tables) (sym c.query-item.is) (fits here query c.loop-query-test.true) in
    AllWithin-more (λ q. HasRoom q tables (packed_room c.args.slots)) queries 0 here (c.loop-query.invariant tables fits)
    (at_read queries (λ q. HasRoom q tables (packed_room c.args.slots)) here query c.loop-query-test.true c.query-item.is
    ((c.has_packed_room.ensures tables fit).0 c.if-not-has_packed_room.false))

pub returns : goal.returns
returns c tables fits = (λ _ k d inside. c.loop-query.invariant tables fits k d (omega arith) (omega (arith, inside, c.loop-query-test.false)), λ _. refl)
