use Rattle.std.proofs.Common.{◌≡◌, ◌<◌, length, map, slice_get, sym, ap, ◌∙◌, arith}
use Rattle.tdp_model.specs.KeyTuple.{key_none}
use Rattle.tdp_core.specs.RawView.{RawView, rows_at}
use Rattle.tdp_core.proofs.RawReads.{list_read, part_read}
use Rattle.tdp_core.proofs.raw_tree.RawTree.row.Goals as goal

pub row-requires : goal.row-requires
row-requires g c =
    let inside = c.self.inside in
    let v = c.args.node in
    let node = c.index.result.now in
    let same = ap (λ (t : RawView g.row.R.Denot). length t.shapes) c.self.view_is in
    let within : v < length inside.rows.items = omega (arith, c.self.invariant.each_node, same, c.requires.node) in
    let is : rows_at c.args.self.now v ≡ node = ap (λ (t : RawView g.row.R.Denot). rows_at t v) (sym c.self.view_is) ∙ list_read inside.rows.items v node within c.index.ensures in
    omega (arith, c.requires.row, ap length is)

pub returns-clause-row : goal.returns-clause-row
returns-clause-row g c =
    let inside = c.self.inside in
    let v = c.args.node in
    let node = c.index.result.now in
    let same = ap (λ (t : RawView g.row.R.Denot). length t.shapes) c.self.view_is in
    let within : v < length inside.rows.items = omega (arith, c.self.invariant.each_node, same, c.requires.node) in
    let is : rows_at c.args.self.now v ≡ node = ap (λ (t : RawView g.row.R.Denot). rows_at t v) (sym c.self.view_is) ∙ list_read inside.rows.items v node within c.index.ensures in
    ap (λ l. slice_get (map (λ x. x.row) l) c.args.i) is ∙ c.row.ensures

pub returns-clause-rank : goal.returns-clause-rank
returns-clause-rank g c =
    sym (part_read (λ x. x.row) (λ r. g.R.Rank.key r.rank) (rows_at c.args.self.now c.args.node) c.args.i c.row.result (key_none g.R.Rank.KEYS 16) (returns-clause-row g c))

pub returns-clause-number : goal.returns-clause-number
returns-clause-number g c = sym (part_read (λ x. x.row) (λ r. r.row) (rows_at c.args.self.now c.args.node) c.args.i c.row.result 0 (returns-clause-row g c))
