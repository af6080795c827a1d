use Rattle.std.proofs.Common.{◌≡◌, ◌<◌, List, [], length, ap, sym, subst, ◌∙◌, arith}
use Rattle.std.proofs.Math.ListN.{set}
use Rattle.tdp_core.specs.RawView.{RawView, RawRowView, IsRawFormed, rows_at, with_rows}
use Rattle.tdp_core.proofs.RawFacts.{formed_without}
use Rattle.tdp_core.proofs.RawReads.{list_read}
use Rattle.tdp_core.proofs.raw_tree.RawTree.take_node.Goals as goal

pub invariant_of-self : goal.invariant_of-self
invariant_of-self g c =
    let d = g.R.Rank.KEYS in
    let key = g.R.Rank.key in
    let v = c.args.node in
    let shapes = c.self.inside.shapes.items in
    let rows = c.self.inside.rows.items in
    let t : RawView g.row.R.Denot = record { shapes = shapes; rows = rows } in
    let same : shapes ≡ c.args.self.now.shapes = ap (λ (z : RawView g.row.R.Denot). z.shapes) c.self.view_is in
    let within : v < length shapes = subst (λ s. v < length s) (sym same) c.requires in
    let none = c.replace-rows.ensures.after ∙ c.new-none.ensures in
    subst (λ l. IsRawFormed d key (record { shapes = shapes; rows = set rows v l })) (sym none) (formed_without d key t v c.self.invariant within)

pub returns : goal.returns
returns g c =
    let v = c.args.node in
    let shapes = c.self.inside.shapes.items in
    let rows = c.self.inside.rows.items in
    let now : List (List (RawRowView g.row.R.Denot)) → RawView g.row.R.Denot = λ ls. record { shapes = shapes; rows = ls } in
    let same = ap (λ (z : RawView g.row.R.Denot). length z.shapes) c.self.view_is in
    let within : v < length rows = omega (arith, same, c.requires, c.self.invariant.each_node) in
    let here = list_read rows v c.index_mut.result.now within c.index_mut.ensures.value in
    record {
      rest = ap (λ l. now (set rows v l)) (c.replace-rows.ensures.after ∙ c.new-none.ensures) ∙ ap (λ (z : RawView g.row.R.Denot). with_rows z v []) c.self.view_is;
      whole = c.into_columns.ensures.whole;
      rows = c.into_columns.ensures.rows ∙ c.replace-rows.ensures.value ∙ sym here ∙ ap (λ (z : RawView g.row.R.Denot). rows_at z v) c.self.view_is;
    }
