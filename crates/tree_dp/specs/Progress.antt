-- What holds of the parts of a tree while their least keys are found, from the last node to the
-- root.
use Rattle.std.specs.Prelude.{◌≡◌, ℕ, ◌+◌, ◌-◌, ◌<◌, ◌≤◌, List, [], length, slice_index, slice_index_or}
use Rattle.tdp_model.specs.KeyTuple.{KeyOf, key_below, key_add, key_none}
use Rattle.tdp_model.specs.TreeProblem.{best_by_kids}
use Rattle.tdp_model.specs.Heap.{FollowsParent}
use Rattle.tdp_core.specs.TreeView.{NodeView, node_at, parent, rows, group_count, members, group, rank, best}
use Rattle.tree_dp.specs.Orders.{key_at}

-- the least key of a subtree solution of row r of node v, by the first members of its children's
-- groups
abbrev pub by_children : {R : Type 0} (d : ℕ) (key : R → KeyOf d 16) → List (NodeView R) → ℕ → ℕ
    → KeyOf d 16
by_children d key t v r = best_by_kids (key_add d 16) (key_none d 16) (length t) (parent t)
    (rank t d key) (group t) (best t d key) v r

-- the nodes from v on have their least keys, and their groups are heaps over them
pub record IsSolvedFrom {R : Type 0} (d : ℕ) (key : R → KeyOf d 16) (t : List (NodeView R))
    (from_node : ℕ) : Type 0 where
  pub all_best : (v : ℕ) → from_node ≤ v → v < length t → length (node_at t v).best ≡ rows t v
  pub bests : (v r : ℕ) → from_node ≤ v → v < length t → r < rows t v
      → best t d key v r ≡ by_children d key t v r
  pub heaps : (v g i : ℕ) → from_node ≤ v → v < length t
      → FollowsParent (key_below d 16) (λ j. best t d key v (slice_index (members t v g) j))
      (length (members t v g)) i

-- the least rank of each group of each node from `from_node` on, in the order of the nodes and of
-- their groups
pub record AreLeastsFrom {R : Type 0} (d : ℕ) (key : R → KeyOf d 16) (t : List (NodeView R))
    (from_node : ℕ) (leasts : List (List R)) : Type 0 where
  pub all_nodes : length leasts + from_node ≡ length t
  pub all_groups : (v : ℕ) → from_node ≤ v → v < length t
      → length (slice_index_or leasts (v - from_node) []) ≡ group_count t v
  pub firsts : (v g : ℕ) → from_node ≤ v → v < length t → g < group_count t v
      → key_at d key (slice_index_or leasts (v - from_node) []) g
      ≡ best t d key v (slice_index (members t v g) 0)
