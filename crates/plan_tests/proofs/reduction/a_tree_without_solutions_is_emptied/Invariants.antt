use Rattle.plan_tests.proofs.reduction.a_tree_without_solutions_is_emptied.Given as goal

abbrev pub ghosts-unlinked_is_reduced : goal.ghosts-unlinked_is_reduced
ghosts-unlinked_is_reduced g a = record { name = a.blank.name; parts = a.blank.parts }
