use Rattle.plan_tests.proofs.reports.reports_a_table_joined_to_itself.Given as goal

abbrev pub ghosts-reports : goal.ghosts-reports
ghosts-reports g a = record { name = a.blank.name; parts = a.blank.parts }
