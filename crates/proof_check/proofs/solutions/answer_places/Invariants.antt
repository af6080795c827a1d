use Rattle.std.proofs.Common.{◌≡◌, ◌<◌, ℕ, List, [], length, slice_index_or}
use Rattle.anyk_model.specs.Table.{Table}
use Rattle.anyk_model.specs.Query.{Query}
use Rattle.join_tree.specs.declared.tree.JoinTree.{JoinTree}
use Rattle.proof_model.specs.ProofView.{proof_view}
use Rattle.proof_model.specs.QueryProblem.{problem_in}
use Rattle.proof_model.specs.Valid.{answer_at}
use Rattle.proof_check.specs.BoundedRows.{HasProblemRows}
use Rattle.proof_check.specs.Places.{ArePlacesOf}
use Rattle.proof_check.proofs.solutions.answer_places.Given as goal

abbrev pub invariant-loop-answer : goal.invariant-loop-answer
invariant-loop-answer g l = record {
  long : length l.places.items ≡ l.answer-index;
  each : (query : Query) (tables : List Table) (join : JoinTree)
      → HasProblemRows query tables join g.R.Rank.KEYS g.R.Rank.key l.raw
      → (i : ℕ) → i < l.answer-index
      → ArePlacesOf query tables join l.raw 0 (answer_at (problem_in query tables join) (proof_view l.proof) i).rows
      (slice_index_or l.places.items i []);
}
