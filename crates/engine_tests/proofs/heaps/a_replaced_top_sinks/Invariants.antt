use Rattle.engine_tests.proofs.heaps.a_replaced_top_sinks.Given as goal

abbrev pub ghosts-tops_are_replaced : goal.ghosts-tops_are_replaced
ghosts-tops_are_replaced g a = record { name = a.blank.name; parts = a.blank.parts }
