use Rattle.std.proofs.Common.{◌≡◌, take}
use Rattle.tdp_core.specs.NamedRows.{columns_in, row_across}
use Rattle.tdp_core.proofs.named_groups.read_across.Given as goal

abbrev pub invariant-loop-column : goal.invariant-loop-column
invariant-loop-column l = l.row.items ≡ row_across (columns_in (take l.column-index l.columns)) l.place
