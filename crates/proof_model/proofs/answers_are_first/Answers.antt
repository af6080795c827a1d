use Rattle.proof_model.specs.QueryProblem.{problem_of}
use Rattle.proof_model.proofs.FirstAnswers.{answers_first}
use Rattle.proof_model.proofs.QueryLaws.{query_problem}
use Rattle.proof_model.proofs.answers_are_first.Goals as goal

pub returns : goal.returns
returns c = λ query tables atoms parents proof nodes valid keys ranking.
    answers_first (problem_of query tables atoms parents)
    (query_problem query tables atoms parents nodes.some nodes.first) proof query.limit valid keys ranking
