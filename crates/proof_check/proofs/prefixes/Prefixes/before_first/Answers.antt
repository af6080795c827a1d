use Rattle.std.proofs.Common.{[], ◌∷◌, length, length-append, replicate, ap, arith}
use Rattle.std.proofs.lemmas.Result.{IfOk-from_err}
use Rattle.proof_check.proofs.Beginnings.{first_prefixes}
use Rattle.proof_check.proofs.prefixes.Prefixes.before_first.Goals as goal

pub returns-in_err-numbers : goal.returns-in_err-numbers
returns-in_err-numbers c = IfOk-from_err c.from_residual.result _ c.from_residual.ensures.0

pub returns-in_err-push : goal.returns-in_err-push
returns-in_err-push c = IfOk-from_err c.from_residual-in_err-push.result _ c.from_residual-in_err-push.ensures.0

pub returns : goal.returns
returns c =
    let more = length-append c.new-starts.result.items (replicate 16 0 ∷ []) in
    first_prefixes c.args.places.now c.push.new.self.items c.in_ok-numbers.numbers.items
    (c.in_ok-numbers.ensures.items_if_clones_equal (λ y same. same))
    (omega (arith, ap length c.in_ok-push.ensures.items, ap length c.new-starts.ensures.items, more))
