-- What the reduction of a raw tree leaves.
use Rattle.std.specs.Prelude.{◌≡◌, ℕ, ◌<◌, ◌↔◌, List, map, length, slice_index, Some}
use Rattle.std.specs.List.{Contains}
use Rattle.std.specs.List.Sorted.{IsStrictlyIncreasing}
use Rattle.tdp_model.specs.KeyTuple.{KeyOf}
use Rattle.tdp_core.specs.RawView.{RawView, raw_len, raw_row_at, own_link, child_link, shape_parent, shape_child_place}
use Rattle.tdp_core.specs.TreeView.{NodeView, node_at, members, group}
use Rattle.tdp_core.specs.WellFormed.{IsTieFreeTree}
use Rattle.tdp_core.specs.Solutions.{RawExtends, IsRawSolution, IsTreeSolution, IsTieFreeRaw, raw_solution_key, solution_key}
use Rattle.semi_join.specs.GroupedTrees.{IsGrouped}

-- rows i and j of node v are members of one group
abbrev pub ShareGroup : {R : Type 0} → List (NodeView R) → ℕ → ℕ → ℕ → Type 0
ShareGroup t v i j = (g : ℕ) × Contains (members t v g) i × Contains (members t v g) j

-- The parts have the rows of the raw tree that extend to a solution of their subtree, in groups by
-- their own links. `kept` says for each node which rows these are: row i of the parts is row
-- `slice_index (kept v) i` of the raw tree.
pub record IsReduced {R : Type 0} (d : ℕ) (key : R → KeyOf d 16) (raw : RawView R)
    (parts : List (NodeView R)) : Type 0 where
  pub shapes : map (λ n. n.shape) parts ≡ raw.shapes
  pub kept : ℕ → List ℕ
  pub exact : (v r : ℕ) → v < length raw.shapes
      → (Contains (kept v) r) ↔ ((r < raw_len raw v) × RawExtends raw v r)
  pub ascending : (v : ℕ) → v < length raw.shapes → IsStrictlyIncreasing (kept v)
  pub rows : (v : ℕ) → v < length raw.shapes
      → map Some (node_at parts v).rows ≡ map (raw_row_at raw v) (kept v)
  -- the groups of a node are its rows by own link
  pub one_group : (v i j : ℕ) → 0 < v → v < length raw.shapes → i < length (kept v)
      → j < length (kept v)
      → (ShareGroup parts v i j)
      ↔ (own_link raw v (slice_index (kept v) i) ≡ own_link raw v (slice_index (kept v) j))
  -- a row names the group whose own link is the link that it names
  pub to_child : (q i j : ℕ) → 0 < q → q < length raw.shapes
      → i < length (kept (shape_parent raw.shapes q))
      → (Contains (group parts q i) j)
      ↔ ((j < length (kept q))
      × (own_link raw q (slice_index (kept q) j)
      ≡ child_link raw (shape_parent raw.shapes q)
      (slice_index (kept (shape_parent raw.shapes q)) i) (shape_child_place raw.shapes q)))
  -- a solution of the parts is one of the raw tree, no two are the same one, and each one comes
  -- from one
  pub solutions : (t : ℕ → ℕ) → IsTreeSolution parts t
      → IsRawSolution raw (λ q. slice_index (kept q) (t q))
  pub one_to_one : (t u : ℕ → ℕ) → IsTreeSolution parts t → IsTreeSolution parts u
      → ((q : ℕ) → q < length raw.shapes → slice_index (kept q) (t q) ≡ slice_index (kept q) (u q))
      → (q : ℕ) → q < length raw.shapes → t q ≡ u q
  pub onto : (s : ℕ → ℕ) → IsRawSolution raw s
      → (t : ℕ → ℕ) × IsTreeSolution parts t
      × ((q : ℕ) → q < length raw.shapes → slice_index (kept q) (t q) ≡ s q)
  pub same_key : (t : ℕ → ℕ) → IsTreeSolution parts t
      → solution_key parts d key t ≡ raw_solution_key raw d key (λ q. slice_index (kept q) (t q))
  pub formed : IsGrouped d key parts
  pub tie_free : IsTieFreeRaw raw → IsTieFreeTree parts
