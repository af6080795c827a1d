use Rattle.std.proofs.Common.{◌++◌, ◌∷◌, [], get_or, take, sym, refl, ap, ◌∙◌, arith, append-nil, append_assoc, take_all}
use Rattle.std.proofs.lemmas.List.{take_more}
use Rattle.tdp_core.proofs.named_groups.push_each.Goals as goal

pub loop-number-init : goal.loop-number-init
loop-number-init c = (sym (append-nil c.args.list.now.items), omega arith, refl)

pub push_reserved-requires : goal.push_reserved-requires
push_reserved-requires c =
    let l = c.loop-number.invariant in
    omega (arith, l.1, l.2, c.requires, c.loop-number-test.true)

pub loop-number-preserved : goal.loop-number-preserved
loop-number-preserved c =
    let l = c.loop-number.invariant in
    let i = c.loop-number.number-index in
    let old = c.args.list.now.items in
    let xs = c.args.numbers.now in (
      c.push_reserved.ensures.items
          ∙ ap (λ ys. ys ++ get_or xs i 0 ∷ []) l.0
          ∙ append_assoc old (take i xs) (get_or xs i 0 ∷ [])
          ∙ ap (λ ys. old ++ ys) (sym (take_more xs i 0 c.loop-number-test.true)),
      omega (arith, c.push_reserved.ensures.len, l.1),
      c.push_reserved.ensures.capacity ∙ l.2,
    )

pub returns : goal.returns
returns c = c.loop-number.invariant.0 ∙ ap (λ ys. c.args.list.now.items ++ ys) (take_all c.loop-number.number-index c.args.numbers.now c.loop-number-test.false)
