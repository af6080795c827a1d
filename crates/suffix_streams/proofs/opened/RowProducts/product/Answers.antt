use Rattle.std.proofs.Common.{◌∙◌}
use Rattle.suffix_streams.proofs.OpenedRows.{number_some, place_in, product_read}
use Rattle.suffix_streams.proofs.Numbers.{in_same, one_within}
use Rattle.suffix_streams.proofs.ListEnds.{any_default}
use Rattle.suffix_streams.proofs.opened.RowProducts.product.Goals as goal

pub overflow_sub-list : goal.overflow_sub-list
overflow_sub-list g c = one_within _ (number_some c.self.inside.lists.items c.self.inside.opened.items c.self.invariant c.args.self.now c.self.view_is c.args.row c.args.child c.index.result.now c.index.ensures c.requires)

pub index-requires-3 : goal.index-requires-3
index-requires-3 g c =
    let inside = place_in c.self.inside.lists.items c.self.inside.opened.items c.self.invariant c.args.self.now c.self.view_is c.args.row c.args.child c.index.result.now c.index.ensures c.requires c.index-2.result.now c.index-2.ensures in
    in_same _ _ _ inside c.index-2.result.now.ok.0

pub returns : goal.returns
returns g c d =
    let inside = place_in c.self.inside.lists.items c.self.inside.opened.items c.self.invariant c.args.self.now c.self.view_is c.args.row c.args.child c.index.result.now c.index.ensures c.requires c.index-2.result.now c.index-2.ensures in
    c.index-3.ensures ∙ any_default c.index-2.result.now.items c.args.child c.index-3.result.now d inside
    ∙ product_read c.self.inside.lists.items c.self.inside.opened.items c.self.invariant c.args.self.now c.self.view_is c.args.row c.args.child c.index.result.now c.index.ensures c.requires c.index-2.result.now c.index-2.ensures d
