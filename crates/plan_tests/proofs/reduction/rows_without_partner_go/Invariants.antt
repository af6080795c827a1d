use Rattle.plan_tests.proofs.reduction.rows_without_partner_go.Given as goal

abbrev pub ghosts-partly_linked_is_reduced : goal.ghosts-partly_linked_is_reduced
ghosts-partly_linked_is_reduced g a = record { name = a.blank.name; parts = a.blank.parts }
