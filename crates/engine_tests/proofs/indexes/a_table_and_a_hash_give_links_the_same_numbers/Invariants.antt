use Rattle.engine_tests.proofs.indexes.a_table_and_a_hash_give_links_the_same_numbers.Given as goal

abbrev pub ghosts-indexes_agree : goal.ghosts-indexes_agree
ghosts-indexes_agree g a = record { name = a.blank.name; parts = a.blank.parts }
