use Rattle.library_example.proofs.example.plan_of.Goals as goal

pub returns-in-Ok : goal.returns-in-Ok
returns-in-Ok g c = c.in-Ok.ensures.plan.whole.tie_free
