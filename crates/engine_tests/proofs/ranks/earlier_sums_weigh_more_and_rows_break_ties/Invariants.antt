use Rattle.engine_tests.proofs.ranks.earlier_sums_weigh_more_and_rows_break_ties.Given as goal

abbrev pub ghosts-orders_lists : goal.ghosts-orders_lists
ghosts-orders_lists g a = record { name = a.blank.name; parts = a.blank.parts }
