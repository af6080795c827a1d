use Rattle.std.proofs.Common.{◌∙◌}
use Rattle.std.proofs.lemmas.Result.{MatchResult-weaker}
use Rattle.proof_model.proofs.Turns.{one_part, some_parts}
use Rattle.proof_model.proofs.line.read_line.Goals as goal

pub returns-in-None : goal.returns-in-None
returns-in-None c =
    one_part c.args.text.now c.first_part.result.0.now (rw (c.in-None.is) at c.first_part.ensures) ∙ c.last.ensures

pub returns-in-Some : goal.returns-in-Some
returns-in-Some c =
    let cut = some_parts c.args.text.now c.first_part.result.0.now c.in-Some.rest.now
    (rw (c.in-Some.is) at c.first_part.ensures) in
    MatchResult-weaker c.with_numbers.result c.with_numbers.ensures (λ found e. cut ∙ e) (λ e _. tt)
