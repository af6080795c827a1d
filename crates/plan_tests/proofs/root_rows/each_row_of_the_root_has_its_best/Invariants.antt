use Rattle.plan_tests.proofs.root_rows.each_row_of_the_root_has_its_best.Given as goal

abbrev pub ghosts-six_are_given : goal.ghosts-six_are_given
ghosts-six_are_given g a = record { name = a.blank.name; parts = a.blank.parts }
