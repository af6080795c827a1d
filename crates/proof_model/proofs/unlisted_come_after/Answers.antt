use Rattle.proof_model.specs.QueryProblem.{problem_of}
use Rattle.proof_model.proofs.QueryLaws.{query_problem}
use Rattle.proof_model.proofs.Soundness.{listed_or_after}
use Rattle.proof_model.proofs.unlisted_come_after.Goals as goal

pub returns : goal.returns
returns c = λ query tables atoms parents proof nodes valid rows sub.
    listed_or_after (problem_of query tables atoms parents)
    (query_problem query tables atoms parents nodes.some nodes.first) proof query.limit valid rows sub
