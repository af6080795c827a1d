use Rattle.plan_tests.proofs.nodes.rows_within_a_budget.Given as goal

abbrev pub ghosts-built : goal.ghosts-built
ghosts-built g a = record { name = a.blank.name; parts = a.blank.parts }
