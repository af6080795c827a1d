use Rattle.engine_tests.proofs.stores.a_thousand_entries_of_an_arena_are_read_back.Given as goal

abbrev pub ghosts-a_thousand_are_read_back : goal.ghosts-a_thousand_are_read_back
ghosts-a_thousand_are_read_back g a = record { name = a.blank.name; parts = a.blank.parts }
