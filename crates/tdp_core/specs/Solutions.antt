-- Solutions of a tree problem: one row for each node, each linked to the row of its node's parent.
use Rattle.std.specs.Prelude.{◌≡◌, ℕ, ◌<◌, ◌⊎◌, List, Contains, length}
use Rattle.rankings.specs.Order.{IsRanking}
use Rattle.tdp_model.specs.Below.{is_below}
use Rattle.tdp_model.specs.KeyTuple.{KeyOf, key_add, key_none, key_below}
use Rattle.tdp_model.specs.Remains.{AtMost}
use Rattle.tdp_model.specs.TreeProblem.{sum_from, RowHas, SolutionHas}
use Rattle.tdp_core.specs.RawView.{RawView, raw_len, raw_number, raw_rank, own_link, child_link, shape_parent, shape_child_place}
use Rattle.tdp_core.specs.TreeView.{NodeView, parent, group, rank}

-- m nodes, and a relation: row i of node q is linked to row r of q's parent. At the root each row
-- is linked to any number.
module _ (m : ℕ) (parent : ℕ → ℕ) (Linked : ℕ → ℕ → ℕ → Type 0) where
  -- `rows` has one row for each node
  abbrev pub IsSolution : (ℕ → ℕ) → Type 0
  IsSolution rows = (q : ℕ) → q < m → Linked q (rows (parent q)) (rows q)

  -- one row for node v and for each node below it
  abbrev pub IsSubtreeSolution : ℕ → (ℕ → ℕ) → Type 0
  IsSubtreeSolution v rows = (q : ℕ) → v < q → q < m → 0 < is_below parent v q
      → Linked q (rows (parent q)) (rows q)

  -- row r of node v is in a solution of its subtree
  abbrev pub Extends : ℕ → ℕ → Type 0
  Extends v r = (rows : ℕ → ℕ) × (rows v ≡ r) × IsSubtreeSolution v rows

-- # Raw trees

module _ {R : Type 0} (t : RawView R) where
  -- the row's own link is the one that the parent's row names
  abbrev pub RawLinked : ℕ → ℕ → ℕ → Type 0
  RawLinked q r i =
      (i < raw_len t q) ×
      ((q ≡ 0) ⊎ (own_link t q i
      ≡ child_link t (shape_parent t.shapes q) r (shape_child_place t.shapes q)))

  abbrev pub IsRawSolution : (ℕ → ℕ) → Type 0
  IsRawSolution = IsSolution (length t.shapes) (shape_parent t.shapes) RawLinked

  abbrev pub RawExtends : ℕ → ℕ → Type 0
  RawExtends = Extends (length t.shapes) (shape_parent t.shapes) RawLinked

  -- any two rows of the root have different numbers, and so have any two rows of another node with
  -- the same own link
  abbrev pub IsTieFreeRaw : Type 0
  IsTieFreeRaw = (v i j : ℕ) → v < length t.shapes → i < raw_len t v → j < raw_len t v
      → (v ≡ 0) ⊎ (own_link t v i ≡ own_link t v j)
      → raw_number t v i ≡ raw_number t v j → i ≡ j

  -- the sum of the rows' keys
  abbrev pub raw_solution_key : (d : ℕ) (key : R → KeyOf d 16) → (ℕ → ℕ) → KeyOf d 16
  raw_solution_key d key rows = sum_from (key_add d 16) (key_none d 16)
      (λ q. raw_rank t d key q (rows q)) (length t.shapes) 0

-- # Trees

module _ {R : Type 0} (t : List (NodeView R)) where
  -- the row is a member of the group that the parent's row names
  abbrev pub TreeLinked : ℕ → ℕ → ℕ → Type 0
  TreeLinked q r i = Contains (group t q r) i

  abbrev pub IsTreeSolution : (ℕ → ℕ) → Type 0
  IsTreeSolution = IsSolution (length t) (parent t) TreeLinked

  -- the sum of the rows' keys
  abbrev pub solution_key : (d : ℕ) (key : R → KeyOf d 16) → (ℕ → ℕ) → KeyOf d 16
  solution_key d key rows = sum_from (key_add d 16) (key_none d 16) (λ q. rank t d key q (rows q))
      (length t) 0

-- k is the key of a subtree solution of row r of node v
abbrev pub SubtreeHas : {R : Type 0} → List (NodeView R) → (d : ℕ) (key : R → KeyOf d 16) → ℕ → ℕ
    → KeyOf d 16 → Type 0
SubtreeHas t d key v r k = RowHas (key_add d 16) (key_none d 16) (length t) (parent t)
    (rank t d key) (group t) (length t) v r k

-- k is the least of these keys
pub record IsLeastKey {R : Type 0} (t : List (NodeView R)) (d : ℕ) (key : R → KeyOf d 16) (v r : ℕ)
    (k : KeyOf d 16) : Type 0 where
  pub had : SubtreeHas t d key v r k
  pub least : (other : KeyOf d 16) → SubtreeHas t d key v r other → AtMost (key_below d 16) k other

-- these are the keys of the tree's solutions, in ascending order
abbrev pub IsTreeRanking : {R : Type 0} → List (NodeView R) → (d : ℕ) (key : R → KeyOf d 16)
    → List (KeyOf d 16) → Type 0
IsTreeRanking t d key ks =
    IsRanking (KeyOf d 16) (key_below d 16)
    (SolutionHas (key_add d 16) (key_none d 16) (length t) (parent t) (rank t d key)
    (group t)) ks
