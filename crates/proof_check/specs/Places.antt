-- Subtree solutions, told by the places of their rows.
use Rattle.std.specs.Prelude.{◌≡◌, ℕ, ◌<◌, List, slice_index}
use Rattle.anyk_model.specs.Table.{Table}
use Rattle.anyk_model.specs.Query.{Query}
use Rattle.join_tree.specs.declared.tree.JoinTree.{JoinTree}
use Rattle.tdp_model.specs.Below.{is_below}
use Rattle.tdp_model.specs.KeyTuple.{KeyOf}
use Rattle.tdp_core.specs.RawView.{RawView, raw_len, raw_number}
use Rattle.proof_model.specs.Problem.{IsSolutionAt, row_in}
use Rattle.proof_model.specs.QueryProblem.{problem_in}
use Rattle.proof_check.specs.BoundedRows.{HasProblemRows}

-- The rows are a subtree solution of node v. The places of its rows are given by node, and are 0 at
-- nodes outside of the subtree.
pub record ArePlacesOf {R : Type 0} (query : Query) (tables : List Table) (join : JoinTree)
    (raw : RawView R) (v : ℕ)
    (rows places : List ℕ) : Type 0 where
  pub solution : IsSolutionAt (problem_in query tables join) v rows
  pub within : (q : ℕ) → q < (problem_in query tables join).nodes
      → 0 < is_below (problem_in query tables join).parent v q
      → slice_index places q < raw_len raw q
  pub numbers : (q : ℕ) → q < (problem_in query tables join).nodes
      → 0 < is_below (problem_in query tables join).parent v q
      → raw_number raw q (slice_index places q) ≡ row_in (problem_in query tables join) v rows q
  pub outside : (q : ℕ)
      → (q < (problem_in query tables join).nodes
      → is_below (problem_in query tables join).parent v q ≡ 0)
      → slice_index places q ≡ 0

-- the raw tree has the rows of a query, and the places are those of a subtree solution of node v
pub record HasSolutionAt {R : Type 0} (d : ℕ) (key : R → KeyOf d 16) (raw : RawView R) (v : ℕ)
    (places : List ℕ)
    : Type 0 where
  pub query : Query
  pub tables : List Table
  pub join : JoinTree
  pub rows : List ℕ
  pub tree : HasProblemRows query tables join d key raw
  pub placed : ArePlacesOf query tables join raw v rows places
