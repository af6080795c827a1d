use Rattle.engine_tests.proofs.heaps.entries_leave_in_order_of_rank.Given as goal

abbrev pub ghosts-leave_in_order : goal.ghosts-leave_in_order
ghosts-leave_in_order g a = record { name = a.blank.name; parts = a.blank.parts }

abbrev pub ghosts-leave_in_order-2 : goal.ghosts-leave_in_order-2
ghosts-leave_in_order-2 g a = record { name = a.blank.name; parts = a.blank.parts }

abbrev pub ghosts-leave_in_order-3 : goal.ghosts-leave_in_order-3
ghosts-leave_in_order-3 g a = record { name = a.blank.name; parts = a.blank.parts }
