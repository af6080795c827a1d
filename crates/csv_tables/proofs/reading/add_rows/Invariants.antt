use Rattle.csv_tables.proofs.Rows.{ReadsRows}
use Rattle.csv_tables.proofs.reading.add_rows.Given as goal

abbrev pub invariant-rows : goal.invariant-rows
invariant-rows l = ReadsRows l.fn.table.names l.fn.records l.records l.count l.table
