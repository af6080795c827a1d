use Rattle.proof_model.specs.QueryProblem.{problem_of}
use Rattle.proof_model.proofs.QueryLaws.{no_flaw}
use Rattle.proof_model.proofs.valid_has_no_flaw.Goals as goal

pub returns : goal.returns
returns c =
    λ query tables atoms parents proof valid f. no_flaw
    (problem_of query tables atoms parents) proof query.limit valid f
