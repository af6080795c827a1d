use Rattle.plan_tests.proofs.driving.each_engine_is_driven_to_its_end_and_from_the_front_again.Given as goal

abbrev pub ghosts-both_drive_over_two_tables : goal.ghosts-both_drive_over_two_tables
ghosts-both_drive_over_two_tables g a = record { name = a.blank.name; parts = a.blank.parts }
