use Rattle.plan_tests.proofs.refusal_cases.a_star_comes_back_after_each_refusal.Given as goal

abbrev pub ghosts-comes_back : goal.ghosts-comes_back
ghosts-comes_back g a = record { name = a.blank.name; parts = a.blank.parts }
