use Rattle.engine_tests.proofs.ranks.a_wide_packed_rank_adds_and_exchanges.Given as goal

abbrev pub ghosts-adds_and_exchanges : goal.ghosts-adds_and_exchanges
ghosts-adds_and_exchanges g a = record { name = a.blank.name; parts = a.blank.parts }
