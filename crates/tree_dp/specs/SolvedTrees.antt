-- A tree beside the parts that it was made of.
use Rattle.std.specs.Prelude.{◌≡◌, ℕ, ◌↔◌, List, [], length, slice_index_or}
use Rattle.std.specs.List.Sorted.{IsPermutation}
use Rattle.tdp_model.specs.KeyTuple.{KeyOf}
use Rattle.tdp_core.specs.TreeView.{NodeView, node_at}
use Rattle.tdp_core.specs.Solutions.{IsTreeSolution, solution_key}
use Rattle.tdp_core.specs.WellFormed.{IsTieFreeTree}

-- the same node, but for the least keys and the order in each group
pub record IsReordered {R : Type 0} (before after : NodeView R) : Type 0 where
  pub shape : after.shape ≡ before.shape
  pub rows : after.rows ≡ before.rows
  pub to_child : after.to_child ≡ before.to_child
  pub group_count : length after.groups ≡ length before.groups
  pub groups : (g : ℕ)
      → IsPermutation (slice_index_or before.groups g []) (slice_index_or after.groups g [])

-- the same tree problem, with the same solutions and the same keys of them
pub record IsSolved {R : Type 0} (before after : List (NodeView R)) : Type 0 where
  pub node_count : length after ≡ length before
  pub nodes : (v : ℕ) → IsReordered (node_at before v) (node_at after v)
  pub solutions : (t : ℕ → ℕ) → IsTreeSolution before t ↔ IsTreeSolution after t
  pub same_key : (d : ℕ) (key : R → KeyOf d 16) (t : ℕ → ℕ)
      → solution_key after d key t ≡ solution_key before d key t
  pub tie_free : IsTieFreeTree before → IsTieFreeTree after
