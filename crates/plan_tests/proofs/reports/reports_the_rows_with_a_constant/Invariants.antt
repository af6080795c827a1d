use Rattle.plan_tests.proofs.reports.reports_the_rows_with_a_constant.Given as goal

abbrev pub ghosts-reports : goal.ghosts-reports
ghosts-reports g a = record { name = a.blank.name; parts = a.blank.parts }
