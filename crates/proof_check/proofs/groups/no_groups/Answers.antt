use Rattle.std.proofs.Common.{[], ◌∷◌, ◌++◌, replicate, ap, ◌∙◌}
use Rattle.std.proofs.lemmas.List.{replicate-append-replicate}
use Rattle.std.proofs.lemmas.Result.{IfOk-from_err}
use Rattle.proof_check.proofs.Counts.{ended}
use Rattle.proof_check.proofs.groups.no_groups.Goals as goal

pub returns-in_err-push : goal.returns-in_err-push
returns-in_err-push c = IfOk-from_err c.from_residual.result _ c.from_residual.ensures.0

pub returns : goal.returns
returns c = c.loop-node.invariant ∙ ap (λ n. replicate n []) (ended _ _ c.loop-node.auto._node-end c.loop-node-test.false)

pub loop-node-preserved : goal.loop-node-preserved
loop-node-preserved c =
    c.in_ok-push.ensures.items
    ∙ ap (λ x. c.loop-node.groups.items ++ (x ∷ [])) c.new-none.ensures
    ∙ ap (λ xs. xs ++ ([] ∷ [])) c.loop-node.invariant ∙ replicate-append-replicate c.loop-node._node 1 []
