use Rattle.engine_tests.proofs.indexes.a_list_gets_one_number_at_each_node.Given as goal

abbrev pub ghosts-lists_get_numbers : goal.ghosts-lists_get_numbers
ghosts-lists_get_numbers g a = record { name = a.blank.name; parts = a.blank.parts }
