use Rattle.engine_tests.proofs.cursors.a_driven_cursor_meets_refusals_and_the_end.Given as goal

abbrev pub ghosts-cursors_are_driven : goal.ghosts-cursors_are_driven
ghosts-cursors_are_driven g a = record { name = a.blank.name; parts = a.blank.parts }
