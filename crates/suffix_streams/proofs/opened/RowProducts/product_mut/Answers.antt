use Rattle.std.proofs.Common.{refl, ◌∙◌}
use Rattle.suffix_streams.proofs.OpenedRows.{number_some, place_in, product_read, changed_own, changed_rows}
use Rattle.suffix_streams.proofs.Numbers.{in_same, one_within}
use Rattle.suffix_streams.proofs.ListEnds.{any_default}
use Rattle.suffix_streams.proofs.opened.RowProducts.product_mut.Goals as goal

pub overflow_sub-list : goal.overflow_sub-list
overflow_sub-list g c = one_within _ (number_some c.self.inside.lists.items c.self.inside.opened.items c.self.invariant c.args.self.now c.self.view_is c.args.row c.args.child c.index.result.now c.index.ensures c.requires)

pub index_mut-requires-2 : goal.index_mut-requires-2
index_mut-requires-2 g c =
    let inside = place_in c.self.inside.lists.items c.self.inside.opened.items c.self.invariant c.args.self.now c.self.view_is c.args.row c.args.child c.index.result.now c.index.ensures c.requires c.index_mut.result.now c.index_mut.ensures.value in
    in_same _ _ _ inside c.index_mut.result.now.ok.0

pub invariant_of-self-lent : goal.invariant_of-self-lent
invariant_of-self-lent g c w =
    changed_own c.self.inside.lists.items c.self.inside.opened.items c.self.invariant c.args.self.now c.self.view_is c.args.row c.args.child c.index.result.now c.index.ensures c.requires c.index_mut.result.now c.index_mut.ensures.value w

pub returns : goal.returns
returns g c =
    let inside = place_in c.self.inside.lists.items c.self.inside.opened.items c.self.invariant c.args.self.now c.self.view_is c.args.row c.args.child c.index.result.now c.index.ensures c.requires c.index_mut.result.now c.index_mut.ensures.value in (
      (
        refl,
        λ w. changed_rows c.self.inside.lists.items c.self.inside.opened.items c.self.invariant c.args.self.now c.self.view_is c.args.row c.args.child c.index.result.now c.index.ensures c.requires c.index_mut.result.now c.index_mut.ensures.value w,
      ),
      record {
        writes_back = tt;
        value = λ d. c.index_mut-2.ensures.value ∙ any_default c.index_mut.result.now.items c.args.child c.index_mut-2.result.now d inside
            ∙ product_read c.self.inside.lists.items c.self.inside.opened.items c.self.invariant c.args.self.now c.self.view_is c.args.row c.args.child c.index.result.now c.index.ensures c.requires c.index_mut.result.now c.index_mut.ensures.value d;
      },
    )
