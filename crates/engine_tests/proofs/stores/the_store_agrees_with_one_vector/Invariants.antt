use Rattle.engine_tests.proofs.stores.the_store_agrees_with_one_vector.Given as goal

abbrev pub ghosts-agrees_with_a_vector : goal.ghosts-agrees_with_a_vector
ghosts-agrees_with_a_vector g a = record { name = a.blank.name; parts = a.blank.parts }
