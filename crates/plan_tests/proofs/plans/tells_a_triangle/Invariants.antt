use Rattle.plan_tests.proofs.plans.tells_a_triangle.Given as goal

abbrev pub ghosts-triangle_is_told : goal.ghosts-triangle_is_told
ghosts-triangle_is_told g a = record { name = a.blank.name; parts = a.blank.parts }
