use Rattle.library_example.proofs.main.Given as goal

abbrev pub ghosts-first_answers : goal.ghosts-first_answers
ghosts-first_answers a = record { name = a.blank.name; parts = a.blank.parts }
