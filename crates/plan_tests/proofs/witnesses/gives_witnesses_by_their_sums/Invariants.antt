use Rattle.plan_tests.proofs.witnesses.gives_witnesses_by_their_sums.Given as goal

abbrev pub ghosts-gives : goal.ghosts-gives
ghosts-gives g a = record { name = a.blank.name; parts = a.blank.parts }

abbrev pub ghosts-gives-2 : goal.ghosts-gives-2
ghosts-gives-2 g a = record { name = a.blank.name; parts = a.blank.parts }
