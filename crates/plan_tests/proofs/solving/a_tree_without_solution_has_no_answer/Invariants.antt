use Rattle.plan_tests.proofs.solving.a_tree_without_solution_has_no_answer.Given as goal

abbrev pub ghosts-none_is_solved : goal.ghosts-none_is_solved
ghosts-none_is_solved g a = record { name = a.blank.name; parts = a.blank.parts }
