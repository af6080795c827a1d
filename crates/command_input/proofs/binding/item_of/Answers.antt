use Rattle.std.proofs.Common.{◌∙◌, ℕ, List, [], sym, ap, arith}
use Rattle.std.proofs.lemmas.Iterator.Adapters.{position_from-zero}
use Rattle.std.specs.Str.{bytes_eq}
use Rattle.anyk_model.specs.Query.{Item}
use Rattle.query_bind.proofs.Search.{position_end, position_hit, position_miss}
use Rattle.command_input.proofs.binding.item_of.Goals as goal

pub loop-item-init : goal.loop-item-init
loop-item-init c = sym (position_from-zero (λ (i : Item). bytes_eq i.alias c.args.alias.now) c.args.query.now.query.items)

pub returns-then-eq : goal.returns-then-eq
returns-then-eq c = record {
  first =
      let alias = c.args.alias.now in
      let here = ap (λ (a : List ℕ). bytes_eq a alias) (sym c.alias.ensures) ∙ sym c.eq.ensures ∙ c.if-eq.true in
      sym (position_hit (λ (i : Item). bytes_eq i.alias alias) c.args.query.now.query.items c.loop-item.item (record { table = 0; alias = [] }) (omega arith) here)
      ∙ c.loop-item.invariant;
  within = omega arith;
}

pub returns : goal.returns
returns c = record {
  first =
      let items = c.args.query.now.query.items in
      sym (position_end (λ (i : Item). bytes_eq i.alias c.args.alias.now) items c.loop-item.item (omega arith)) ∙ c.loop-item.invariant;
  within = tt;
}

pub loop-item-preserved : goal.loop-item-preserved
loop-item-preserved c =
    let alias = c.args.alias.now in
    let here = ap (λ (a : List ℕ). bytes_eq a alias) (sym c.alias.ensures) ∙ sym c.eq.ensures ∙ c.if-eq.false in
    position_miss (λ (i : Item). bytes_eq i.alias alias) c.args.query.now.query.items c.loop-item.item (record { table = 0; alias = [] }) (omega arith) here
    ∙ c.loop-item.invariant
