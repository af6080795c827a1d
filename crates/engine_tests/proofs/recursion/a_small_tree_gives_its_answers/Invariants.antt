use Rattle.engine_tests.proofs.recursion.a_small_tree_gives_its_answers.Given as goal

abbrev pub ghosts-finds_twice : goal.ghosts-finds_twice
ghosts-finds_twice g a = record { name = a.blank.name; parts = a.blank.parts }
