use Rattle.proof_model.specs.QueryProblem.{problem_of}
use Rattle.proof_model.proofs.OneFlaw.{one_flaw}
use Rattle.proof_model.proofs.one_first_flaw.Goals as goal

pub returns : goal.returns
returns c =
    λ query tables atoms parents proof f g. one_flaw (problem_of query tables atoms parents) proof query.limit f g
