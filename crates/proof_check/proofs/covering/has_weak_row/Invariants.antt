use Rattle.std.proofs.Common.{ℕ, ◌<◌}
use Rattle.tdp_core.specs.RawView.{raw_number}
use Rattle.proof_model.specs.QueryProblem.{problem_in}
use Rattle.proof_model.specs.Valid.{IsCovered}
use Rattle.proof_check.specs.LowBounds.{OfEach}
use Rattle.proof_check.proofs.covering.has_weak_row.Given as goal

abbrev pub invariant-loop-row : goal.invariant-loop-row
invariant-loop-row g l =
    OfEach l.join g.R.Rank.KEYS g.R.Rank.key l.tree (λ query tables c.
    (i : ℕ) → i < l.row → IsCovered (problem_in query tables l.join) c l.node (raw_number l.tree.raw l.node i))
