use Rattle.std.proofs.Common.{◌≡◌, ◌∙◌, ap, arith}
use Rattle.bound_query.specs.WeighedQuery.{BoundQuery, ItemParts, item_parts, key_parts}
use Rattle.bound_query.specs.WeighedView.{item_weights_view, weighed_view}
use Rattle.bound_query.specs.Weights.{key_at}
use Rattle.bound_query.proofs.Readers.{items_length, parts_of, weighed_at}
use Rattle.bound_query.proofs.query.Query.cap.Goals as goal

pub index-requires-2 : goal.index-requires-2
index-requires-2 c =
    let tables = c.requires.fits.0 in
    let order = c.args.self.now.query.order in
    let items = c.args.self.now.query.items in
    let key = key_at order c.args.key in
    let stored = ap (λ (b : BoundQuery). b.weighed) c.self.view_is ∙ c.requires.fits.1.weighed in
    let v = c.index.result.now in
    let shown : weighed_view v ≡ key_parts tables items key =
    ap weighed_view c.index.ensures ∙ weighed_at c.self.inside.weighed.items order (key_parts tables items) c.args.key v stored c.requires.key in
    omega (arith, v.ok.0, items_length tables items key v shown, c.requires.item)

pub returns : goal.returns
returns c = λ tables fits.
    let order = c.args.self.now.query.order in
    let items = c.args.self.now.query.items in
    let key = key_at order c.args.key in
    let stored = ap (λ (b : BoundQuery). b.weighed) c.self.view_is ∙ fits.weighed in
    let v = c.index.result.now in
    let shown : weighed_view v ≡ key_parts tables items key =
    ap weighed_view c.index.ensures ∙ weighed_at c.self.inside.weighed.items order (key_parts tables items) c.args.key v stored c.requires.key in
    let own : item_weights_view c.index-2.result.now ≡ item_parts tables items key c.args.item =
    ap item_weights_view c.index-2.ensures ∙ parts_of tables items key v shown c.args.item c.index-2.result.now c.requires.item in
    ap (λ (p : ItemParts). p.cap) own
