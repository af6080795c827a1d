use Rattle.std.proofs.Common.{◌+◌, ◌∷◌, [], length, map, get_or, ap, ◌∙◌, length-append}
use Rattle.std.proofs.lemmas.List.{map-append}
use Rattle.std.proofs.lemmas.Result.{IfOk-from_err}
use Rattle.proof_check.proofs.Pushed.{empty_more}
use Rattle.proof_check.proofs.Counts.{ended}
use Rattle.proof_check.proofs.lines.no_bounds.Goals as goal

pub returns-in_err-push : goal.returns-in_err-push
returns-in_err-push g c = record {
  count = IfOk-from_err c.from_residual.result _ c.from_residual.ensures.0;
  empty = IfOk-from_err c.from_residual.result _ c.from_residual.ensures.0;
}

pub returns : goal.returns
returns g c = record {
  count = c.loop-node.invariant.count ∙ ended _ _ c.loop-node.auto._node-end c.loop-node-test.false;
  empty = c.loop-node.invariant.empty;
}

pub loop-node-preserved : goal.loop-node-preserved
loop-node-preserved g c =
    let old = c.loop-node.bounds.items in
    record {
      count = ap length c.in_ok-push.ensures.items ∙ length-append old (_ ∷ []) ∙ ap (λ n. n + 1) c.loop-node.invariant.count;
      empty = λ v. ap (λ xs. get_or (map (λ b. b.ranks.items) xs) v []) c.in_ok-push.ensures.items
          ∙ ap (λ xs. get_or xs v []) (map-append (λ b. b.ranks.items) old (_ ∷ []))
          ∙ empty_more (map (λ b. b.ranks.items) old) c.new-in-loop-node-2.result.items c.new-in-loop-node-2.ensures.items c.loop-node.invariant.empty v;
    }
