use Rattle.std.proofs.Common.{ℕ, ◌<◌}
use Rattle.proof_model.specs.QueryProblem.{problem_in}
use Rattle.proof_check.specs.Coverage.{AllCovered}
use Rattle.proof_check.specs.LowBounds.{OfEach}
use Rattle.proof_check.proofs.covering.first_weak.Given as goal

abbrev pub invariant-loop-node : goal.invariant-loop-node
invariant-loop-node g l =
    OfEach l.join g.R.Rank.KEYS g.R.Rank.key l.tree (λ query tables c.
    (v : ℕ) → v < l.node → AllCovered (problem_in query tables l.join) c v)
