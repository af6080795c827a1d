use Rattle.plan_tests.proofs.Held.{caps_below}
use Rattle.plan_tests.proofs.nodes.counts_of.Goals as goal

pub build-requires-clause-limit : goal.build-requires-clause-limit
build-requires-clause-limit g c = caps_below g.R.Rank.LIMIT c.args.query.now c.args.tables.now c.requires.fits c.requires.limit
