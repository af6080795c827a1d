use Rattle.std.proofs.Common.{◌+◌, None, [], ◌∷◌, length, get_or, ap, ◌∙◌, arith, length-append}
use Rattle.std.proofs.lemmas.List.{get_or_past}
use Rattle.std.proofs.lemmas.Result.{IfOk-from_err}
use Rattle.proof_check.proofs.Nothing.{nothing_more}
use Rattle.proof_check.proofs.deviations.nothing_known.Goals as goal

pub loop-group-init : goal.loop-group-init
loop-group-init g c = record {
  count = ap length c.new-least.ensures.items;
  none = λ k. ap (λ xs. get_or xs k None) c.new-least.ensures.items ∙ get_or_past [] k None (omega arith);
}

pub returns-in_err-push : goal.returns-in_err-push
returns-in_err-push g c = record {
  count = IfOk-from_err c.from_residual.result _ c.from_residual.ensures.0;
  none = IfOk-from_err c.from_residual.result _ c.from_residual.ensures.0;
}

pub loop-group-preserved : goal.loop-group-preserved
loop-group-preserved g c = record {
  count = ap length c.in_ok-push.ensures.items ∙ length-append c.loop-group.least.items (None ∷ []) ∙ ap (λ n. n + 1) c.loop-group.invariant.count;
  none = λ k. ap (λ xs. get_or xs k None) c.in_ok-push.ensures.items ∙ nothing_more c.loop-group.least.items None c.loop-group.invariant.none k;
}

pub returns : goal.returns
returns g c = record {
  count = let n = c.loop-group.invariant.count in omega (arith, n);
  none = c.loop-group.invariant.none;
}
