use Rattle.plan_tests.proofs.witnesses.gives_answers_of_four_items.Given as goal

abbrev pub ghosts-gives : goal.ghosts-gives
ghosts-gives g a = record { name = a.blank.name; parts = a.blank.parts }
