use Rattle.program_tests.proofs.cases.comes_out.Given as goal

abbrev pub ghosts-status_of : goal.ghosts-status_of
ghosts-status_of a = record { name = a.blank.name; parts = a.blank.parts }
