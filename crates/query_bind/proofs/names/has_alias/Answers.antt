use Rattle.std.proofs.Common.{◌∙◌, sym, ap, ℕ, List}
use Rattle.std.specs.Str.{bytes_eq}
use Rattle.bound_query.specs.declared.bound.BoundItem.{BoundItem}
use Rattle.rankings.proofs.Searching.{any_end, any_hit, any_miss}
use Rattle.query_bind.proofs.names.has_alias.Goals as goal

pub returns-then-eq : goal.returns-then-eq
returns-then-eq c =
    let alias = c.args.alias.now in
    any_hit (λ (i : BoundItem). bytes_eq i.alias alias) c.args.items.now c.loop-item.item-index c.loop-item.invariant c.item-item.result c.loop-item-test.true
    (ap (λ (i : BoundItem). bytes_eq i.alias alias) (sym c.item-item.is) ∙ ap (λ (name : List ℕ). bytes_eq name alias) (sym c.bytes.ensures) ∙ sym c.eq.ensures ∙ c.if-eq.true)

pub loop-item-preserved : goal.loop-item-preserved
loop-item-preserved c =
    let alias = c.args.alias.now in
    any_miss (λ (i : BoundItem). bytes_eq i.alias alias) c.args.items.now c.loop-item.item-index c.loop-item.invariant c.item-item.result c.loop-item-test.true
    (ap (λ (i : BoundItem). bytes_eq i.alias alias) (sym c.item-item.is) ∙ ap (λ (name : List ℕ). bytes_eq name alias) (sym c.bytes.ensures) ∙ sym c.eq.ensures ∙ c.if-eq.false)

pub returns : goal.returns
returns c =
    any_end (λ (i : BoundItem). bytes_eq i.alias c.args.alias.now) c.args.items.now c.loop-item.item-index c.loop-item.invariant c.loop-item-test.false
