use Rattle.std.proofs.Common.{inl, inr, ◌≡◌, ◌+◌, ◌≤◌, true, length, subst, sym, arith}
use Rattle.std.proofs.lemmas.Bool.{cases_lt}
use Rattle.std.proofs.lemmas.Result.{IfOk-from_err}
use Rattle.bound_query.specs.WeighedQuery.{Fits}
use Rattle.node_build.specs.Nodes.{CapsBelow}
use Rattle.verdict.specs.Verdict.{AreStructures}
use Rattle.verdict.proofs.Structure.{structures_found}
use Rattle.verdict.specs.AcceptedInput.{queries_in}
use Rattle.anyk_top.specs.Plans.{shapes_of}
use Rattle.anyk_top.proofs.PlanList.{all_planned, all_prepared, next_flawed, planned_more, plans_shaped, some_prepared, unplanned_cost, unplanned_memory}
use Rattle.anyk_top.proofs.planning.plans_over.Goals as goal

pub returns-in_err-push-in-Ok : goal.returns-in_err-push-in-Ok
returns-in_err-push-in-Ok g c =
    let at = c.loop-query in
    let tables = c.args.tables.now in
    let queries = c.args.queries.now in
    record {
      shaped = unplanned_memory g.R.Rank.KEYS g.R.Rank.key tables (AreStructures true 1 tables (queries_in queries)) c.from_residual-in_err-push-in-Ok.result c.from_residual-in_err-push-in-Ok.ensures.1;
      plans = IfOk-from_err c.from_residual-in_err-push-in-Ok.result _ c.from_residual-in_err-push-in-Ok.ensures.0;
      cost = some_prepared g.R.Rank.KEYS g.R.Rank.key tables queries at.query-index at.plans.items c.args.steps.now at.steps c.prepare.new.steps
          c.query-item.result at.invariant c.loop-query-test.true c.query-item.is c.in-Ok.ensures.cost;
    }

pub returns-in-Err : goal.returns-in-Err
returns-in-Err g c =
    let at = c.loop-query in
    let tables = c.args.tables.now in
    let queries = c.args.queries.now in
    let place = c.len.result + 1 in
    let was = at.invariant in
    let here : place ≡ at.query-index + 1 = omega (arith, c.len.ensures, was.count) in
    record {
      shaped = next_flawed g.R.Rank.KEYS g.R.Rank.key tables queries at.query-index at.plans.items c.args.steps.now at.steps place
          c.query-item.result c.in-Err.fault was c.loop-query-test.true c.query-item.is here c.in-Err.ensures.refusal;
      plans = tt;
      cost = some_prepared g.R.Rank.KEYS g.R.Rank.key tables queries at.query-index at.plans.items c.args.steps.now at.steps c.prepare.new.steps
          c.query-item.result was c.loop-query-test.true c.query-item.is c.in-Err.ensures.cost;
    }

pub loop-query-preserved : goal.loop-query-preserved
loop-query-preserved g c =
    let at = c.loop-query in
    let inside = c.loop-query-test.true in
    rw c.in_ok-push-in-Ok.ensures.items
    (planned_more g.R.Rank.KEYS g.R.Rank.key c.args.tables.now c.args.queries.now at.query-index at.plans.items
    c.args.steps.now at.steps c.prepare.new.steps
    c.query-item.result c.in-Ok.plan at.invariant inside c.query-item.is c.in-Ok.ensures.plan c.in-Ok.ensures.cost)

pub returns : goal.returns
returns g c =
    let at = c.loop-query in
    let d = g.R.Rank.KEYS in
    let key = g.R.Rank.key in
    let tables = c.args.tables.now in
    let queries = c.args.queries.now in
    let end : at.query-index ≡ length queries = omega arith in
    let all = all_planned d key tables queries at.query-index at.plans.items c.args.steps.now at.steps at.invariant end in
    record {
      shaped = structures_found true 1 tables (queries_in queries) (shapes_of at.plans.items) (plans_shaped d key tables queries at.plans.items all);
      plans = all;
      cost = all_prepared d key tables queries at.query-index at.plans.items c.args.steps.now at.steps at.invariant end;
    }

pub returns-in_err-plans : goal.returns-in_err-plans
returns-in_err-plans g c =
    let tables = c.args.tables.now in
    let queries = c.args.queries.now in
    record {
      shaped = unplanned_memory g.R.Rank.KEYS g.R.Rank.key tables (AreStructures true 1 tables (queries_in queries)) c.from_residual.result c.from_residual.ensures.1;
      plans = IfOk-from_err c.from_residual.result _ c.from_residual.ensures.0;
      cost = unplanned_cost g.R.Rank.KEYS g.R.Rank.key tables queries c.args.steps.now;
    }

pub prepare-requires-clause-fits : goal.prepare-requires-clause-fits
prepare-requires-clause-fits g c =
    let inside = c.loop-query-test.true in
    subst (λ q. Fits q c.args.tables.now) (sym c.query-item.is) (c.requires.fits c.loop-query.query-index c.query-item.result inside)

pub prepare-requires-clause-keys : goal.prepare-requires-clause-keys
prepare-requires-clause-keys g c =
    let inside = c.loop-query-test.true in
    subst (λ q. length q.query.order ≤ g.R.Rank.KEYS) (sym c.query-item.is) (c.requires.keys c.loop-query.query-index c.query-item.result inside)

pub prepare-requires-clause-slots : goal.prepare-requires-clause-slots
prepare-requires-clause-slots g c = elim (cases_lt g.R.Rank.ITEMS 16) [
  | inl few ↦ subst (λ q. length q.query.items ≤ g.R.Rank.ITEMS) (sym c.query-item.is)
      (c.requires.slots few c.loop-query.query-index c.query-item.result c.loop-query-test.true)
  | inr enough ↦ omega (arith, enough, c.items-items.ensures.limit)
]

pub prepare-requires-clause-limit : goal.prepare-requires-clause-limit
prepare-requires-clause-limit g c =
    let inside = c.loop-query-test.true in
    subst (λ q. CapsBelow g.R.Rank.LIMIT q c.args.tables.now) (sym c.query-item.is) (c.requires.limit c.loop-query.query-index c.query-item.result inside)
