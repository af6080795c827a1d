use Rattle.std.proofs.Common.{length, ap, ◌∙◌, arith}
use Rattle.std.proofs.Math.ListN.{set}
use Rattle.tdp_core.proofs.RankedRowLists.{row_set, rows_length}
use Rattle.tdp_core.proofs.node_rows.NodeRows.set.Goals as goal

pub index_mut-requires : goal.index_mut-requires
index_mut-requires g c =
    let t = c.self.inside in
    omega (arith, c.requires, rows_length t.ranks.items t.numbers.items c.self.invariant, ap length c.self.view_is, c.self.invariant, t.ranks.ok.0)

pub index_mut-requires-2 : goal.index_mut-requires-2
index_mut-requires-2 g c =
    let t = c.self.inside in
    omega (arith, c.requires, rows_length t.ranks.items t.numbers.items c.self.invariant, ap length c.self.view_is, t.numbers.ok.0)

pub returns : goal.returns
returns g c =
    let t = c.self.inside in
    row_set c.args.row t.ranks.items t.numbers.items c.args.i c.self.invariant ∙ ap (λ l. set l c.args.i c.args.row) c.self.view_is
