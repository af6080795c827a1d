use Rattle.plan_tests.proofs.reports.reports_a_path_by_two_keys.Given as goal

abbrev pub ghosts-reports : goal.ghosts-reports
ghosts-reports g a = record { name = a.blank.name; parts = a.blank.parts }
