use Rattle.std.proofs.Common.{◌≡◌, ◌-◌, ◌∙◌, ap, get_or, arith, rules, SFits, ℤ, pos, List}
use mir.Syntax.{w128}
use mir.Val.{of_z, to_z}
use Rattle.std.proofs.lemmas.Int.{to_z-of_z}
use Rattle.bound_query.specs.WeighedQuery.{BoundQuery, ItemParts, item_parts, key_parts}
use Rattle.bound_query.specs.WeighedView.{item_weights_view, weighed_view}
use Rattle.bound_query.specs.Weights.{key_at}
use Rattle.bound_query.proofs.Readers.{items_length, part_kept, parts_of, weighed_at}
use Rattle.bound_query.proofs.query.Query.part.Goals as goal

pub index-requires-2 : goal.index-requires-2
index-requires-2 c =
    let tables = c.args.tables.now in
    let order = c.args.self.now.query.order in
    let items = c.args.self.now.query.items in
    let key = key_at order c.args.key in
    let stored = ap (λ (b : BoundQuery). b.weighed) c.self.view_is ∙ c.requires.fits.weighed in
    let v = c.index.result.now in
    let shown : weighed_view v ≡ key_parts tables items key =
    ap weighed_view c.index.ensures ∙ weighed_at c.self.inside.weighed.items order (key_parts tables items) c.args.key v stored c.requires.key in
    omega (arith, v.ok.0, items_length tables items key v shown, c.requires.item)

pub returns : goal.returns
returns c =
    let tables = c.args.tables.now in
    let order = c.args.self.now.query.order in
    let items = c.args.self.now.query.items in
    let key = key_at order c.args.key in
    let stored = ap (λ (b : BoundQuery). b.weighed) c.self.view_is ∙ c.requires.fits.weighed in
    let v = c.index.result.now in
    let shown : weighed_view v ≡ key_parts tables items key =
    ap weighed_view c.index.ensures ∙ weighed_at c.self.inside.weighed.items order (key_parts tables items) c.args.key v stored c.requires.key in
    let w = c.index-2.result.now in
    let own : item_weights_view w ≡ item_parts tables items key c.args.item =
    ap item_weights_view c.index-2.ensures ∙ parts_of tables items key v shown c.args.item w c.requires.item in
    let first = c.requires.first in
    let x = c.part_at.result in
    let g : SFits w128 x = search rules in
    let re : to_z w128 (of_z w128 x) ≡ x = simp to_z-of_z in
    re ∙ c.part_at.ensures ∙ ap (λ (l : List ℤ). get_or l (c.args.row - 1) (pos 0)) (c.as_slice.ensures.value ∙ ap (λ (p : ItemParts). p.parts) own)
    ∙ part_kept tables items key c.args.item c.args.row (c.args.row - 1) (omega (arith, first, c.requires.row)) (omega (arith, first))
