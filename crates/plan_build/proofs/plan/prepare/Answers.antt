use Rattle.std.proofs.Common.{arith, refl}
use Rattle.std.proofs.lemmas.Result.{IfOk-from_err}
use Rattle.plan_build.specs.Faults.{TellsFlaw}
use Rattle.plan_build.proofs.Refusals.{handed_on}
use Rattle.plan_build.proofs.Rooted.{plan_given}
use Rattle.plan_build.proofs.plan.prepare.Goals as goal

pub returns-in_err-join : goal.returns-in_err-join
returns-in_err-join g c =
    record {
      plan = IfOk-from_err c.from_residual.result _ c.from_residual.ensures.0;
      refusal = handed_on (TellsFlaw c.args.query.now.query c.args.tables.now) c.from_residual.result c.in_err-join.field-0.0 c.from_residual.ensures.1 (c.in_err-join.ensures.refusal c.args.tables.now);
      cost = omega arith;
    }

pub returns : goal.returns
returns g c =
    let join = c.in_ok-join.join in
    let made = c.plan_over.ensures.plan in
    record {
      plan = plan_given g.R.Rank.KEYS g.R.Rank.key c.args.query.now c.args.tables.now join join c.in_ok-join.ensures.tree.joined
          c.plan_over.result made refl;
      refusal = c.plan_over.ensures.refusal;
      cost = c.plan_over.ensures.cost;
    }

pub plan_over-requires-clause-ranks : goal.plan_over-requires-clause-ranks
plan_over-requires-clause-ranks g c = record { fits = c.requires.fits; keys = c.requires.keys; items = c.requires.slots; limit = c.requires.limit }

pub plan_over-requires-clause-stored : goal.plan_over-requires-clause-stored
plan_over-requires-clause-stored g c = c.in_ok-join.ensures.tree

pub plan_over-requires-clause-over : goal.plan_over-requires-clause-over
plan_over-requires-clause-over g c = c.in_ok-join.ensures.tree.joined

pub plan_over-requires-clause-over_ordered : goal.plan_over-requires-clause-over_ordered
plan_over-requires-clause-over_ordered g c = c.in_ok-join.ensures.tree.ordered
