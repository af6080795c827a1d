use Rattle.std.proofs.Common.{◌≡◌, ◌+◌, ◌∙◌, [], List, ℤ, length, pos, sym, ap, subst, arith}
use mir.Syntax.{w128}
use mir.Val.{of_z, to_z}
use Rattle.std.proofs.lemmas.Bool.{eqb-true}
use Rattle.std.proofs.lemmas.Int.{to_z-of_z}
use Rattle.std.proofs.lemmas.List.{nil_from_length}
use Rattle.bound_query.specs.WeighedQuery.{ItemParts}
use Rattle.query_bind.specs.Measures.{AreSmall, added}
use Rattle.query_bind.proofs.Tallied.{added_first}
use Rattle.query_bind.proofs.weighing.with_column.Goals as goal

pub sums_with-requires : goal.sums_with-requires
sums_with-requires c =
    let net_is : to_z w128 (of_z w128 c.args.net) ≡ c.args.net = to_z-of_z w128 c.args.net c.ranges.net in
    subst (λ (n : ℤ). AreSmall n c.as_slice-parts.result.now c.as_slice.result.now) (sym net_is)
    (subst (λ (l : List ℤ). AreSmall c.args.net l c.as_slice.result.now) (sym c.as_slice-parts.ensures.value)
    (subst (λ (l : List ℤ). AreSmall c.args.net c.args.before.now.parts.items l) (sym c.as_slice.ensures.value) c.requires.small))

pub overflow_add-cap : goal.overflow_add-cap
overflow_add-cap c = omega (arith, c.requires.size)

pub returns-then-net-eq1 : goal.returns-then-net-eq1
returns-then-net-eq1 c =
    let before = c.args.before.now in
    let weights = c.args.weights.items in
    let none : before.parts.items ≡ [] =
    sym c.as_slice-parts.ensures.value ∙ nil_from_length c.as_slice-parts.result.now (eqb-true (length c.as_slice-parts.result.now) 0 (sym c.is_empty.ensures ∙ c.if-is_empty.true)) in
    let net_is : to_z w128 (of_z w128 c.args.net) ≡ c.args.net = to_z-of_z w128 c.args.net c.ranges.net in
    let once : c.args.net ≡ pos 1 = sym net_is ∙ ap (to_z w128) c.if-net-eq1.true in
    ap (λ (l : List ℤ). let w : ItemParts = record { cap = before.cap + c.args.size; parts = l } in w)
    (sym ((λ i. added (once i) (none i) weights) ∙ added_first weights))

pub returns : goal.returns
returns c =
    let before = c.args.before.now in
    let weights = c.as_slice.result.now in
    let net_is : to_z w128 (of_z w128 c.args.net) ≡ c.args.net = to_z-of_z w128 c.args.net c.ranges.net in
    ap (λ (l : List ℤ). let w : ItemParts = record { cap = before.cap + c.args.size; parts = l } in w)
    (c.in_ok-parts.ensures ∙ ap (λ (n : ℤ). added n c.as_slice-parts.result.now weights) net_is
    ∙ ap (λ (l : List ℤ). added c.args.net l weights) c.as_slice-parts.ensures.value ∙ ap (added c.args.net before.parts.items) c.as_slice.ensures.value)
