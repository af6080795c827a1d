use Rattle.engine_tests.proofs.stores.a_run_has_its_entries_alone.Given as goal

abbrev pub ghosts-a_run_is_read_back : goal.ghosts-a_run_is_read_back
ghosts-a_run_is_read_back g a = record { name = a.blank.name; parts = a.blank.parts }
