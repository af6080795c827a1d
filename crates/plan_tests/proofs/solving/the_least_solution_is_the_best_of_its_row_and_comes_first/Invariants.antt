use Rattle.plan_tests.proofs.solving.the_least_solution_is_the_best_of_its_row_and_comes_first.Given as goal

abbrev pub ghosts-six_are_solved : goal.ghosts-six_are_solved
ghosts-six_are_solved g a = record { name = a.blank.name; parts = a.blank.parts }
