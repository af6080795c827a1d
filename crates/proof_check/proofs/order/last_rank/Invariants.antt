use Rattle.std.proofs.Common.{◌≤◌, List, length, option_map}
use Rattle.anyk_model.specs.Table.{Table}
use Rattle.anyk_model.specs.Query.{Query}
use Rattle.join_tree.specs.declared.tree.JoinTree.{JoinTree}
use Rattle.proof_model.specs.ProofView.{proof_view}
use Rattle.proof_model.specs.QueryProblem.{problem_in}
use Rattle.proof_check.specs.BoundedRows.{HasProblemRows}
use Rattle.proof_check.specs.Solutions.{AreAnswers, AreOrdered}
use Rattle.proof_check.proofs.Ordering.{IsRankBefore}
use Rattle.proof_check.proofs.order.last_rank.Given as goal

abbrev pub invariant-loop-i : goal.invariant-loop-i
invariant-loop-i g l =
    (query : Query) (tables : List Table) (join : JoinTree) → length query.order ≤ g.R.Rank.KEYS
    → HasProblemRows query tables join g.R.Rank.KEYS g.R.Rank.key l.raw
    → AreAnswers query tables join l.raw (proof_view l.proof) l.places
    → IsRankBefore query tables join g.R.Rank.KEYS (proof_view l.proof) l.i (option_map g.R.Rank.key l.last)
    × AreOrdered (problem_in query tables join) (proof_view l.proof) l.i
