use Rattle.engine_tests.proofs.cursors.cursors_move_apart.Given as goal

abbrev pub ghosts-cursors_move : goal.ghosts-cursors_move
ghosts-cursors_move g a = record { name = a.blank.name; parts = a.blank.parts }
