use Rattle.anyk_top.proofs.PlanList.{HasPlanned}
use Rattle.anyk_top.proofs.planning.plans_over.Given as goal

abbrev pub invariant-loop-query : goal.invariant-loop-query
invariant-loop-query g l = HasPlanned g.R.Rank.KEYS g.R.Rank.key l.tables l.queries l.query-index l.plans.items
    l.fn.steps l.steps
