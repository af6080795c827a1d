use Rattle.std.proofs.Common.{length, ap, arith}
use Rattle.tdp_core.proofs.RawRowLists.{rows_length}
use Rattle.tdp_core.proofs.raw_rows.RawRows.len.Goals as goal

pub returns : goal.returns
returns g c =
    let t = c.self.inside.columns in
    omega (arith, rows_length t.rows t.owns.items t.named.rows c.self.invariant, ap length c.self.view_is, c.len.ensures)
