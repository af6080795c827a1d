use Rattle.plan_tests.proofs.root_rows.each_item_of_two_tables_can_be_the_root.Given as goal

abbrev pub ghosts-gives_at : goal.ghosts-gives_at
ghosts-gives_at g a = record { name = a.blank.name; parts = a.blank.parts }

abbrev pub ghosts-gives_at-2 : goal.ghosts-gives_at-2
ghosts-gives_at-2 g a = record { name = a.blank.name; parts = a.blank.parts }
