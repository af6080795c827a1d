use Rattle.engine_tests.proofs.trees.a_tree_of_two_nodes_is_read.Given as goal

abbrev pub ghosts-small_is_read : goal.ghosts-small_is_read
ghosts-small_is_read g a = record { name = a.blank.name; parts = a.blank.parts }

abbrev pub ghosts-small_is_read-2 : goal.ghosts-small_is_read-2
ghosts-small_is_read-2 g a = record { name = a.blank.name; parts = a.blank.parts }
