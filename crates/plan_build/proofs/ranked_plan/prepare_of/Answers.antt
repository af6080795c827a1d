use Rattle.std.proofs.Common.{◌<◌, IfOk, IfSome, length, subst, sym}
use Rattle.plan_build.specs.Plan.{IsPlanOf}
use Rattle.plan_build.proofs.ranked_plan.prepare_of.Goals as goal

pub prepare_at-requires-clause-fits : goal.prepare_at-requires-clause-fits
prepare_at-requires-clause-fits g c = c.requires.ranks.fits

pub prepare_at-requires-clause-keys : goal.prepare_at-requires-clause-keys
prepare_at-requires-clause-keys g c = c.requires.ranks.keys

pub prepare_at-requires-clause-slots : goal.prepare_at-requires-clause-slots
prepare_at-requires-clause-slots g c = c.requires.ranks.items

pub prepare_at-requires-clause-limit : goal.prepare_at-requires-clause-limit
prepare_at-requires-clause-limit g c = c.requires.ranks.limit

pub prepare_at-requires-clause-item : goal.prepare_at-requires-clause-item
prepare_at-requires-clause-item g c = subst (λ o. IfSome o (λ i. i < length c.args.query.now.query.items)) c.in-Some.is c.requires.item

pub prepare-requires-clause-fits : goal.prepare-requires-clause-fits
prepare-requires-clause-fits g c = c.requires.ranks.fits

pub prepare-requires-clause-keys : goal.prepare-requires-clause-keys
prepare-requires-clause-keys g c = c.requires.ranks.keys

pub prepare-requires-clause-slots : goal.prepare-requires-clause-slots
prepare-requires-clause-slots g c = c.requires.ranks.items

pub prepare-requires-clause-limit : goal.prepare-requires-clause-limit
prepare-requires-clause-limit g c = c.requires.ranks.limit

pub returns-in-Some : goal.returns-in-Some
returns-in-Some g c = record {
  plan = subst (λ o. IfOk c.prepare_at.result (IsPlanOf g.R.Rank.KEYS g.R.Rank.key c.args.query.now c.args.tables.now o)) (sym c.in-Some.is) c.prepare_at.ensures.plan;
  refusal = c.prepare_at.ensures.refusal;
  cost = c.prepare_at.ensures.cost;
}

pub returns-in-None : goal.returns-in-None
returns-in-None g c = record {
  plan = subst (λ o. IfOk c.prepare.result (IsPlanOf g.R.Rank.KEYS g.R.Rank.key c.args.query.now c.args.tables.now o)) (sym c.in-None.is) c.prepare.ensures.plan;
  refusal = c.prepare.ensures.refusal;
  cost = c.prepare.ensures.cost;
}
