use Rattle.std.proofs.Common.{length, ap, arith}
use Rattle.tdp_core.proofs.RankedRowLists.{rows_length}
use Rattle.tdp_core.proofs.node_rows.NodeRows.len.Goals as goal

pub returns : goal.returns
returns g c =
    let t = c.self.inside in
    omega (arith, rows_length t.ranks.items t.numbers.items c.self.invariant, ap length c.self.view_is, t.numbers.ok.0, c.len.ensures)
