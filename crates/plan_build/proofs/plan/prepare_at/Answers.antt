use Rattle.std.proofs.Common.{arith}
use Rattle.std.proofs.lemmas.Result.{IfOk-from_err}
use Rattle.plan_build.specs.Faults.{TellsFlaw}
use Rattle.plan_build.proofs.Refusals.{handed_on}
use Rattle.plan_build.proofs.Rooted.{item_there, joined_again, plan_at_given}
use Rattle.plan_build.proofs.plan.prepare_at.Goals as goal

pub reroot-rooted-requires : goal.reroot-rooted-requires
reroot-rooted-requires g c = record {
  tree = c.in_ok-tree.ensures.tree.ordered;
  there = item_there c.args.query.now.query c.in_ok-tree.tree c.in_ok-tree.ensures.tree.joined _ (omega (arith, c.requires.item, c.requires.fits.some));
}

pub returns-in_err-tree : goal.returns-in_err-tree
returns-in_err-tree g c =
    record {
      plan = IfOk-from_err c.from_residual.result _ c.from_residual.ensures.0;
      refusal = handed_on (TellsFlaw c.args.query.now.query c.args.tables.now) c.from_residual.result c.in_err-tree.field-0.0 c.from_residual.ensures.1 (c.in_err-tree.ensures.refusal c.args.tables.now);
      cost = omega arith;
    }

pub returns : goal.returns
returns g c =
    let query = c.args.query.now in
    let rooted = c.reroot-rooted.ensures in
    let made = c.plan_over.ensures.plan in
    record {
      plan = plan_at_given g.R.Rank.KEYS g.R.Rank.key query c.args.tables.now c.in_ok-tree.tree c.reroot-rooted.result
          (joined_again query.query c.in_ok-tree.tree c.in_ok-tree.ensures.tree.joined c.reroot-rooted.result rooted.count rooted.graphs)
          c.plan_over.result made c.args.item c.requires.fits.some rooted.root rooted.count rooted.same;
      refusal = c.plan_over.ensures.refusal;
      cost = c.plan_over.ensures.cost;
    }

pub plan_over-requires-clause-ranks : goal.plan_over-requires-clause-ranks
plan_over-requires-clause-ranks g c = record { fits = c.requires.fits; keys = c.requires.keys; items = c.requires.slots; limit = c.requires.limit }

pub plan_over-requires-clause-stored : goal.plan_over-requires-clause-stored
plan_over-requires-clause-stored g c = c.in_ok-tree.ensures.tree

pub plan_over-requires-clause-over : goal.plan_over-requires-clause-over
plan_over-requires-clause-over g c =
    let stored = c.in_ok-tree.ensures.tree in
    let rooted = c.reroot-rooted.ensures in
    joined_again c.args.query.now.query c.in_ok-tree.tree stored.joined c.reroot-rooted.result rooted.count rooted.graphs

pub plan_over-requires-clause-over_ordered : goal.plan_over-requires-clause-over_ordered
plan_over-requires-clause-over_ordered g c = c.reroot-rooted.ensures.tree
