use Rattle.proof_model.specs.QueryProblem.{problem_of}
use Rattle.proof_model.proofs.Completeness.{full_valid}
use Rattle.proof_model.proofs.QueryLaws.{query_problem}
use Rattle.proof_model.proofs.full_is_valid.Goals as goal

pub returns : goal.returns
returns c = λ query tables atoms parents proof nodes full.
    full_valid (problem_of query tables atoms parents)
    (query_problem query tables atoms parents nodes.some nodes.first) proof query.limit full
