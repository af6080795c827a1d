use Rattle.std.proofs.Common.{◌∙◌, ◌-◌, [], take, drop, length, get_or, ap, arith}
use Rattle.csv.proofs.RecordFacts.{cut-length}
use Rattle.anyk_model.specs.Table.{Fields}
use Rattle.table_store.specs.Values.{own_number}
use Rattle.table_store.proofs.Packed.{field_between, lies}
use Rattle.table_store.proofs.fields.FieldList.own_number.Goals as goal

pub start_of-start-requires : goal.start_of-start-requires
start_of-start-requires c =
    let ends = c.self.inside.ends.items in
    omega (arith, c.requires, ap length c.self.view_is, cut-length 0 ends c.self.inside.bytes.items, ap length c.deref.ensures.value)

pub index-requires : goal.index-requires
index-requires c =
    let inside = c.self.inside in
    omega (arith, c.requires, ap length c.self.view_is, cut-length 0 inside.ends.items inside.bytes.items, inside.ends.ok.0)

pub own_number_at-requires-clause-order : goal.own_number_at-requires-clause-order
own_number_at-requires-clause-order c =
    (lies c.self.inside.ends.items c.self.inside.bytes.items c.deref.result.now c.args.self.now c.args.place _ _ c.self.invariant c.self.view_is
    c.requires c.deref.ensures.value c.start_of-start.ensures c.index.ensures).order

pub own_number_at-requires-clause-within : goal.own_number_at-requires-clause-within
own_number_at-requires-clause-within c =
    let l = lies c.self.inside.ends.items c.self.inside.bytes.items c.deref.result.now c.args.self.now c.args.place _ _ c.self.invariant c.self.view_is
    c.requires c.deref.ensures.value c.start_of-start.ensures c.index.ensures in
    omega (arith, l.within, ap length c.as_slice.ensures.value)

pub returns : goal.returns
returns c =
    let l = lies c.self.inside.ends.items c.self.inside.bytes.items c.deref.result.now c.args.self.now c.args.place _ _ c.self.invariant c.self.view_is
    c.requires c.deref.ensures.value c.start_of-start.ensures c.index.ensures in
    c.own_number_at.ensures ∙ ap own_number ((λ i. take (l.end_is i - l.start_is i) (drop (l.start_is i) (c.as_slice.ensures.value i)))
    ∙ field_between c.self.inside.ends.items c.self.inside.bytes.items c.args.place l.inside ∙ ap (λ (f : Fields). get_or f c.args.place []) c.self.view_is)
