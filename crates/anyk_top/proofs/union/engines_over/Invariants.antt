use Rattle.anyk_top.proofs.UnionRun.{HasStarted}
use Rattle.anyk_top.proofs.union.engines_over.Given as goal

abbrev pub invariant-loop-plan : goal.invariant-loop-plan
invariant-loop-plan g l = HasStarted g.R.Rank.KEYS g.R.Rank.key l.plans l.plan-index l.engines.items l.fn.steps l.steps
