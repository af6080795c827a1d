use Rattle.std.proofs.Common.{[], ap, refl, sym, subst, map, take, List}
use Rattle.std.proofs.lemmas.List.{take_all}
use Rattle.query_bind.specs.Labels.{IsLabelling, least_in}
use Rattle.bound_query.specs.StoredParts.{equality_view, side_view}
use Rattle.bound_query.specs.declared.bound.BoundEquality.{BoundEquality}
use Rattle.query_bind.specs.declared.classes.Member.{Member}
use Rattle.query_bind.proofs.Labels.{labels_more, labels_none, labels_stay}
use Rattle.query_bind.proofs.classes.classes_of.Goals as goal

pub loop-equality-init : goal.loop-equality-init
loop-equality-init c = subst (λ (l : List Member). IsLabelling [] (least_in l)) (sym c.new-classes.ensures.items) labels_none

pub loop-equality-preserved : goal.loop-equality-preserved
loop-equality-preserved c =
    let before = map equality_view (take c.loop-equality.equality-index c.args.equalities.now) in
    labels_more c.args.equalities.now c.loop-equality.equality-index c.equality-item.result (least_in c.join.new.classes.items) c.loop-equality-test.true c.equality-item.is
    (c.in_ok-join.ensures before (equality_view c.equality-item.result) refl (ap side_view c.in-Column.is) c.loop-equality.invariant)

pub loop-equality-preserved-in_default : goal.loop-equality-preserved-in_default
loop-equality-preserved-in_default c =
    let before = map equality_view (take c.loop-equality.equality-index c.args.equalities.now) in
    labels_more c.args.equalities.now c.loop-equality.equality-index c.equality-item.result (least_in c.loop-equality.classes.items) c.loop-equality-test.true c.equality-item.is
    (labels_stay before (least_in c.loop-equality.classes.items) (equality_view c.equality-item.result) c.in_default.field-0 (ap side_view c.in_default.is) c.loop-equality.invariant)

pub returns : goal.returns
returns c =
    subst (λ (l : List BoundEquality). IsLabelling (map equality_view l) (least_in c.loop-equality.classes.items))
    (take_all c.loop-equality.equality-index c.args.equalities.now c.loop-equality-test.false) c.loop-equality.invariant
