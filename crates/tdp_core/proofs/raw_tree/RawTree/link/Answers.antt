use Rattle.std.proofs.Common.{◌≡◌, ◌<◌, [], length, map, get_or, sym, ap, ◌∙◌, arith}
use Rattle.tdp_core.specs.RawView.{RawView, raw_len, rows_at, shape_children}
use Rattle.tdp_core.proofs.RawFacts.{children_fit}
use Rattle.tdp_core.proofs.RawReads.{list_read}
use Rattle.tdp_core.proofs.raw_tree.RawTree.link.Goals as goal

pub link-requires-clause-row : goal.link-requires-clause-row
link-requires-clause-row g c =
    let inside = c.self.inside in
    let v = c.args.node in
    let node = c.index.result.now in
    let same = ap (λ (t : RawView g.row.R.Denot). length t.shapes) c.self.view_is in
    let within : v < length inside.rows.items = omega (arith, c.self.invariant.each_node, same, c.requires.node) in
    let is : rows_at c.args.self.now v ≡ node = ap (λ (t : RawView g.row.R.Denot). rows_at t v) (sym c.self.view_is) ∙ list_read inside.rows.items v node within c.index.ensures in
    omega (arith, c.requires.row, ap length is)

pub link-requires-clause-child : goal.link-requires-clause-child
link-requires-clause-child g c =
    let inside = c.self.inside in
    let v = c.args.node in
    let node = c.index.result.now in
    let same = ap (λ (t : RawView g.row.R.Denot). length t.shapes) c.self.view_is in
    let within : v < length inside.rows.items = omega (arith, c.self.invariant.each_node, same, c.requires.node) in
    let is : rows_at c.args.self.now v ≡ node = ap (λ (t : RawView g.row.R.Denot). rows_at t v) (sym c.self.view_is) ∙ list_read inside.rows.items v node within c.index.ensures in
    let t : RawView g.row.R.Denot = record { shapes = inside.shapes.items; rows = inside.rows.items } in
    let long = ap (λ (t : RawView g.row.R.Denot). raw_len t v) c.self.view_is in
    let all = children_fit g.R.Rank.KEYS g.R.Rank.key t c.self.invariant v (omega (arith, same, c.requires.node)) c.args.i (omega (arith, long, c.requires.row)) in
    let count = ap (λ (t : RawView g.row.R.Denot). shape_children t.shapes v) c.self.view_is in
    let here = ap (λ l. length (get_or (map (λ x. x.children) l) c.args.i [])) (list_read inside.rows.items v node within c.index.ensures) in
    omega (arith, c.requires.child, all, count, here)

pub returns : goal.returns
returns g c =
    let inside = c.self.inside in
    let v = c.args.node in
    let node = c.index.result.now in
    let same = ap (λ (t : RawView g.row.R.Denot). length t.shapes) c.self.view_is in
    let within : v < length inside.rows.items = omega (arith, c.self.invariant.each_node, same, c.requires.node) in
    let is : rows_at c.args.self.now v ≡ node = ap (λ (t : RawView g.row.R.Denot). rows_at t v) (sym c.self.view_is) ∙ list_read inside.rows.items v node within c.index.ensures in
    c.link.ensures ∙ ap (λ l. get_or (get_or (map (λ x. x.children) l) c.args.i []) c.args.child 0) (sym is)
