use Rattle.plan_tests.proofs.root_rows.each_item_of_a_table_joined_to_itself_can_be_the_root.Given as goal

abbrev pub ghosts-gives_at : goal.ghosts-gives_at
ghosts-gives_at g a = record { name = a.blank.name; parts = a.blank.parts }
