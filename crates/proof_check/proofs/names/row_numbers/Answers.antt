use Rattle.std.proofs.Common.{◌≡◌, ◌+◌, ◌∷◌, [], None, nat_eq, position, length, get_or, ap, subst, ◌∙◌, arith, length-append}
use Rattle.std.proofs.lemmas.Result.{IfOk-from_err}
use Rattle.proof_check.specs.Lines.{AreNumbers, row_link}
use Rattle.proof_check.proofs.Pushed.{pushed_more}
use Rattle.proof_check.proofs.Counts.{none_below}
use Rattle.proof_check.proofs.names.row_numbers.Goals as goal

pub returns-in_err-numbers : goal.returns-in_err-numbers
returns-in_err-numbers g c = IfOk-from_err c.from_residual.result _ c.from_residual.ensures.0

pub returns-in_err-push : goal.returns-in_err-push
returns-in_err-push g c = IfOk-from_err c.from_residual-in_err-push.result _ c.from_residual-in_err-push.ensures.0

pub loop-row-init : goal.loop-row-init
loop-row-init g c = record { count = ap length c.in_ok-numbers.ensures.items; each = λ r l. absurd (none_below _ l) }

pub loop-row-preserved : goal.loop-row-preserved
loop-row-preserved g c = record {
  count = ap length c.in_ok-push.ensures.items ∙ length-append c.loop-row.numbers.items (c.group_number-number.result ∷ [])
      ∙ ap (λ n. n + 1) c.loop-row.invariant.count;
  each = λ r l.
      ap (λ xs. get_or xs r None) c.in_ok-push.ensures.items
      ∙ pushed_more c.loop-row.numbers.items c.group_number-number.result None
      (λ r. position (nat_eq (row_link c.args.raw.now c.args.node r c.args.child)) c.args.groups.now) c.loop-row.row
      c.loop-row.invariant.count c.loop-row.invariant.each
      (c.group_number-number.ensures ∙ ap (λ x. position (nat_eq x) c.args.groups.now) c.row_link-link.ensures) r l;
}

pub row_link-link-requires-clause-node : goal.row_link-link-requires-clause-node
row_link-link-requires-clause-node g c = c.requires.node

pub row_link-link-requires-clause-row : goal.row_link-link-requires-clause-row
row_link-link-requires-clause-row g c = let l = c.loop-row-test.true in let count = c.len-count.ensures in omega (arith, l, count)

pub row_link-link-requires-clause-child : goal.row_link-link-requires-clause-child
row_link-link-requires-clause-child g c = c.requires.child

pub returns : goal.returns
returns g c =
    let end : c.loop-row.row ≡ c.len-count.result = let a = c.loop-row.auto.row-end in let b = c.loop-row-test.false in omega (arith, a, b) in
    subst (λ n. AreNumbers c.args.raw.now c.args.groups.now c.args.node c.args.child n c.loop-row.numbers.items)
    (end ∙ c.len-count.ensures) c.loop-row.invariant
