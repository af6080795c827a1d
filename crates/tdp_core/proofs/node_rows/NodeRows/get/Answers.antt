use Rattle.std.proofs.Common.{◌<◌, length, slice_get, sym, ap, ◌∙◌, arith}
use Rattle.tdp_core.proofs.RankedRowLists.{rows_length, row_here}
use Rattle.tdp_core.proofs.node_rows.NodeRows.get.Goals as goal

pub index-requires : goal.index-requires
index-requires g c =
    let t = c.self.inside in
    omega (arith, c.requires, rows_length t.ranks.items t.numbers.items c.self.invariant, ap length c.self.view_is, c.self.invariant, t.ranks.ok.0)

pub index-requires-2 : goal.index-requires-2
index-requires-2 g c =
    let t = c.self.inside in
    omega (arith, c.requires, rows_length t.ranks.items t.numbers.items c.self.invariant, ap length c.self.view_is, t.numbers.ok.0)

pub returns : goal.returns
returns g c =
    let t = c.self.inside in
    let within : c.args.i < length t.numbers.items = omega (arith, c.requires, rows_length t.ranks.items t.numbers.items c.self.invariant, ap length c.self.view_is) in
    ap (λ l. slice_get l c.args.i) (sym c.self.view_is)
    ∙ row_here t.ranks.items t.numbers.items c.args.i c.index.result.now c.index-2.result.now c.self.invariant within c.index.ensures c.index-2.ensures
