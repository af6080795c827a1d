use Rattle.plan_tests.proofs.root_rows.no_row_has_a_best_without_answers.Given as goal

abbrev pub ghosts-none_are_planned : goal.ghosts-none_are_planned
ghosts-none_are_planned g a = record { name = a.blank.name; parts = a.blank.parts }
