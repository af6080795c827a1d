use Rattle.std.proofs.Common.{◌≡◌, ◌<◌, length, map, get_or, sym, ap, ◌∙◌, arith}
use Rattle.tdp_core.specs.RawView.{RawView, rows_at}
use Rattle.tdp_core.proofs.RawReads.{list_read}
use Rattle.tdp_core.proofs.raw_tree.RawTree.own.Goals as goal

pub own-requires : goal.own-requires
own-requires g c =
    let inside = c.self.inside in
    let v = c.args.node in
    let node = c.index.result.now in
    let same = ap (λ (t : RawView g.row.R.Denot). length t.shapes) c.self.view_is in
    let within : v < length inside.rows.items = omega (arith, c.self.invariant.each_node, same, c.requires.node) in
    let is : rows_at c.args.self.now v ≡ node = ap (λ (t : RawView g.row.R.Denot). rows_at t v) (sym c.self.view_is) ∙ list_read inside.rows.items v node within c.index.ensures in
    omega (arith, c.requires.row, ap length is)

pub returns : goal.returns
returns g c =
    let inside = c.self.inside in
    let v = c.args.node in
    let node = c.index.result.now in
    let same = ap (λ (t : RawView g.row.R.Denot). length t.shapes) c.self.view_is in
    let within : v < length inside.rows.items = omega (arith, c.self.invariant.each_node, same, c.requires.node) in
    let is : rows_at c.args.self.now v ≡ node = ap (λ (t : RawView g.row.R.Denot). rows_at t v) (sym c.self.view_is) ∙ list_read inside.rows.items v node within c.index.ensures in
    c.own.ensures ∙ ap (λ l. get_or (map (λ x. x.own) l) c.args.i 0) (sym is)
