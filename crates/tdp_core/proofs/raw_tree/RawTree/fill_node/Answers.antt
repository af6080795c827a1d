use Rattle.std.proofs.Common.{◌≡◌, ◌<◌, ◌+◌, ◌≤◌, length, ap, sym, subst}
use Rattle.std.proofs.Math.ListN.{set}
use Rattle.std.specs.List.{All}
use Rattle.tdp_core.specs.RawRows.{rows_of}
use Rattle.tdp_core.specs.RawView.{RawView, IsRawFormed, RawRowFits, row_total}
use Rattle.tdp_core.proofs.RawFacts.{formed_with}
use Rattle.tdp_core.proofs.raw_tree.RawTree.fill_node.Goals as goal

pub invariant_of-self : goal.invariant_of-self
invariant_of-self g c =
    let d = g.R.Rank.KEYS in
    let key = g.R.Rank.key in
    let v = c.args.node in
    let xs = rows_of c.args.columns in
    let shapes = c.self.inside.shapes.items in
    let rows = c.self.inside.rows.items in
    let t : RawView g.row.R.Denot = record { shapes = shapes; rows = rows } in
    let same : shapes ≡ c.args.self.now.shapes = ap (λ (z : RawView g.row.R.Denot). z.shapes) c.self.view_is in
    let within : v < length shapes = subst (λ s. v < length s) (sym same) c.requires.node in
    let fits = subst (λ s. All (RawRowFits d key s v) xs) (sym same) c.requires.fits in
    let room = subst (λ (z : RawView g.row.R.Denot). row_total z + length xs ≤ 4194304) (sym c.self.view_is) c.requires.room in
    subst (λ l. IsRawFormed d key (record { shapes = shapes; rows = set rows v l })) (sym c.of.ensures) (formed_with d key t v xs c.self.invariant within fits room)
