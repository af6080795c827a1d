use Rattle.plan_tests.proofs.nodes.links_by_two_variables_and_by_none.Given as goal

abbrev pub ghosts-built : goal.ghosts-built
ghosts-built g a = record { name = a.blank.name; parts = a.blank.parts }
