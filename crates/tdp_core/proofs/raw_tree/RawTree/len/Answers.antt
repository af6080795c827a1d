use Rattle.std.proofs.Common.{◌≡◌, ◌<◌, length, sym, ap, ◌∙◌, arith}
use Rattle.tdp_core.specs.RawView.{RawView, rows_at}
use Rattle.tdp_core.proofs.RawReads.{length_within, list_read}
use Rattle.tdp_core.proofs.raw_tree.RawTree.len.Goals as goal

pub overflow_cast-result : goal.overflow_cast-result
overflow_cast-result g c =
    let inside = c.self.inside in
    let v = c.args.node in
    let node = c.index.result.now in
    let same = ap (λ (t : RawView g.row.R.Denot). length t.shapes) c.self.view_is in
    let within : v < length inside.rows.items = omega (arith, c.self.invariant.each_node, same, c.requires) in
    let is = ap length (list_read inside.rows.items v node within c.index.ensures) in
    omega (arith, is, length_within inside.rows.items v, c.self.invariant.few_rows)

pub returns : goal.returns
returns g c =
    let inside = c.self.inside in
    let v = c.args.node in
    let node = c.index.result.now in
    let same = ap (λ (t : RawView g.row.R.Denot). length t.shapes) c.self.view_is in
    let within : v < length inside.rows.items = omega (arith, c.self.invariant.each_node, same, c.requires) in
    let is : rows_at c.args.self.now v ≡ node = ap (λ (t : RawView g.row.R.Denot). rows_at t v) (sym c.self.view_is) ∙ list_read inside.rows.items v node within c.index.ensures in
    c.len.ensures ∙ sym (ap length is)
