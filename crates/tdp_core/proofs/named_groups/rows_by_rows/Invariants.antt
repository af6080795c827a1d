use Rattle.std.proofs.Common.{◌≡◌, length}
use Rattle.tdp_core.specs.NamedRows.{columns_in, rows_across}
use Rattle.tdp_core.proofs.named_groups.rows_by_rows.Given as goal

abbrev pub invariant-loop-place : goal.invariant-loop-place
invariant-loop-place l = l.named ≡ record { width = length (columns_in l.columns); rows = rows_across (columns_in l.columns) l.place }
