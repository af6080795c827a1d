use Rattle.plan_tests.proofs.plans.plans_two_tables.Given as goal

abbrev pub ghosts-is_planned : goal.ghosts-is_planned
ghosts-is_planned g a = record { name = a.blank.name; parts = a.blank.parts }
