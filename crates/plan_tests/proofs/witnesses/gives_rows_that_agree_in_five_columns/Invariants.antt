use Rattle.plan_tests.proofs.witnesses.gives_rows_that_agree_in_five_columns.Given as goal

abbrev pub ghosts-gives : goal.ghosts-gives
ghosts-gives g a = record { name = a.blank.name; parts = a.blank.parts }
