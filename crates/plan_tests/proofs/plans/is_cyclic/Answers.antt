use Rattle.plan_tests.proofs.Held.{caps_below}
use Rattle.plan_tests.proofs.plans.is_cyclic.Goals as goal

pub prepare-whole-requires-clause-limit : goal.prepare-whole-requires-clause-limit
prepare-whole-requires-clause-limit g c = caps_below g.R.Rank.LIMIT c.args.query.now c.args.tables.now c.requires.fits c.requires.limit

pub prepare_at-rooted-requires-clause-limit : goal.prepare_at-rooted-requires-clause-limit
prepare_at-rooted-requires-clause-limit g c = caps_below g.R.Rank.LIMIT c.args.query.now c.args.tables.now c.requires.fits c.requires.limit
