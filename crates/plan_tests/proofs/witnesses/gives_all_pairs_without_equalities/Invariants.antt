use Rattle.plan_tests.proofs.witnesses.gives_all_pairs_without_equalities.Given as goal

abbrev pub ghosts-gives : goal.ghosts-gives
ghosts-gives g a = record { name = a.blank.name; parts = a.blank.parts }
