use Rattle.engine_tests.proofs.ranks.numbers_of_a_packed_rank_stay_apart.Given as goal

abbrev pub ghosts-orders_packed : goal.ghosts-orders_packed
ghosts-orders_packed g a = record { name = a.blank.name; parts = a.blank.parts }
