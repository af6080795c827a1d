use Rattle.plan_tests.proofs.root_rows.each_item_of_four_can_be_the_root.Given as goal

abbrev pub ghosts-gives_of_four : goal.ghosts-gives_of_four
ghosts-gives_of_four g a = record { name = a.blank.name; parts = a.blank.parts }
