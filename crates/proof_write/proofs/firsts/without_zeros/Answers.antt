use Rattle.std.proofs.Common.{◌<◌, ◌∷◌, ◌++◌, [], length, get_or, sym, ap, ◌∙◌, arith}
use Rattle.std.proofs.lemmas.List.{take_all}
use Rattle.std.proofs.lemmas.Result.{IfOk-from_err}
use Rattle.proof_write.specs.Firsts.{listed}
use Rattle.proof_write.proofs.Listing.{listed_kept, listed_skipped}
use Rattle.proof_write.proofs.firsts.without_zeros.Goals as goal
use Rattle.proof_write.proofs.firsts.without_zeros.Goals.{then-row-gt0+in_ok-push, else-row-gt0}

pub loop-row-preserved : goal.loop-row-preserved
loop-row-preserved c =
    let rows = c.args.rows.now in
    let i = c.loop-row.row-index in
    let inside : i < length rows = omega arith in
    elim c.if-row-gt0.branch [
      | then-row-gt0+in_ok-push w ↦ ap (λ v. v.items) w.list-is ∙ w.in_ok-push.ensures.items
          ∙ ap (λ xs. xs ++ (get_or rows i 0 ∷ [])) c.loop-row.invariant
          ∙ sym (listed_kept rows i inside w.if-row-gt0.true)
      | else-row-gt0 w ↦ ap (λ v. v.items) w.list-is ∙ c.loop-row.invariant
          ∙ sym (listed_skipped rows i inside (omega (arith, w.if-row-gt0.false)))
    ]

pub returns : goal.returns
returns c =
    let rows = c.args.rows.now in
    c.loop-row.invariant ∙ ap listed (take_all c.loop-row.row-index rows (omega arith))

pub returns-in_err-list : goal.returns-in_err-list
returns-in_err-list c = IfOk-from_err c.from_residual.result _ c.from_residual.ensures.0

pub returns-in_err-push : goal.returns-in_err-push
returns-in_err-push c = IfOk-from_err c.from_residual-in_err-push.result _ c.from_residual-in_err-push.ensures.0
