use Rattle.std.proofs.Common.{◌≡◌, length, length-take, take, arith}
use Rattle.std.proofs.lemmas.Slice.Zip.{AllZip-long}
use Rattle.anyk_top.specs.StartedEngines.{IsStarted}
use Rattle.anyk_top.proofs.UnionRun.{all_spent, all_started, none_started, some_spent, started_more}
use Rattle.std.proofs.lemmas.Result.{IfOk-from_err}
use Rattle.anyk_top.proofs.union.engines_over.Given.{Over}
use Rattle.anyk_top.proofs.union.engines_over.Goals.{After-loop-plan}
use Rattle.anyk_top.proofs.union.engines_over.Goals as goal

pub loop-plan-preserved : goal.loop-plan-preserved
loop-plan-preserved g c =
    rw c.in_ok-push.ensures.items
    (started_more g.R.Rank.KEYS g.R.Rank.key c.args.plans.now c.loop-plan.plan-index c.loop-plan.engines.items
    c.args.steps.now c.loop-plan.steps _ c.plan-item.result
    c.in_ok-started.started c.loop-plan.invariant c.loop-plan-test.true c.plan-item.is
    (record {
      tree = c.in_ok-started.ensures.tree;
      calls = c.in_ok-started.ensures.calls;
      asked =
          c.in_ok-started.ensures.asked;
    }) c.engine_over.ensures.cost)

pub returns-in_err-engines : goal.returns-in_err-engines
returns-in_err-engines g c = record {
  started = IfOk-from_err c.from_residual.result _ c.from_residual.ensures.0;
  cost = omega arith;
}

pub returns-in_err-started : goal.returns-in_err-started
returns-in_err-started g c = record {
  started = IfOk-from_err c.from_residual-in_err-started.result _ c.from_residual-in_err-started.ensures.0;
  cost = some_spent g.R.Rank.KEYS g.R.Rank.key c.args.plans.now c.loop-plan.plan-index c.loop-plan.engines.items
      c.args.steps.now c.loop-plan.steps _ c.plan-item.result
      c.loop-plan.invariant c.loop-plan-test.true c.plan-item.is c.engine_over.ensures.cost;
}

pub returns-in_err-push : goal.returns-in_err-push
returns-in_err-push g c = record {
  started = IfOk-from_err c.from_residual-in_err-push.result _ c.from_residual-in_err-push.ensures.0;
  cost = some_spent g.R.Rank.KEYS g.R.Rank.key c.args.plans.now c.loop-plan.plan-index c.loop-plan.engines.items
      c.args.steps.now c.loop-plan.steps _ c.plan-item.result
      c.loop-plan.invariant c.loop-plan-test.true c.plan-item.is c.engine_over.ensures.cost;
}

pub loop-plan-init : goal.loop-plan-init
loop-plan-init g c =
    rw c.in_ok-engines.ensures.items (none_started g.R.Rank.KEYS g.R.Rank.key c.args.plans.now c.args.steps.now)

-- after the last plan there is an engine for each
module _ (g : Over) where
  whole_of : (c : After-loop-plan g) → c.loop-plan.plan-index ≡ length c.args.plans.now
  whole_of c =
      let long = AllZip-long (IsStarted g.R.Rank.KEYS g.R.Rank.key) (take c.loop-plan.plan-index c.args.plans.now) c.loop-plan.engines.items c.loop-plan.invariant.started in
      let taken = length-take c.loop-plan.plan-index c.args.plans.now in
      omega (arith, c.loop-plan-test.false, long, taken, c.loop-plan.invariant.count)

pub returns : goal.returns
returns g c =
    let whole = whole_of g (goal.at.returns g c).After-loop-plan in
    record {
      started = all_started g.R.Rank.KEYS g.R.Rank.key c.args.plans.now c.loop-plan.plan-index c.loop-plan.engines.items
          c.args.steps.now c.loop-plan.steps c.loop-plan.invariant whole;
      cost = all_spent g.R.Rank.KEYS g.R.Rank.key c.args.plans.now c.loop-plan.plan-index c.loop-plan.engines.items
          c.args.steps.now c.loop-plan.steps c.loop-plan.invariant whole;
    }
