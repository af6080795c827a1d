-- Trees as lists of parents, and paths in them.
use Rattle.std.specs.Prelude.{◌≡◌, ◌≢◌, ◌⊎◌, ℕ, suc, ◌<◌, ◌≤◌, List, length, slice_index}

-- a list of parents, one for each node: node 0 is the root and its own parent, and every other node
-- is after its parent
pub record ParentsFirst (parents : List ℕ) : Type 0 where
  pub root : slice_index parents 0 ≡ 0
  pub earlier : (k : ℕ) → 0 < k → k < length parents → slice_index parents k < k

-- k is a node below j
abbrev pub IsChild : List ℕ → ℕ → ℕ → Type 0
IsChild parents j k = (0 < k) × (slice_index parents k ≡ j)

-- one of the two is the other's parent
abbrev pub IsLinked : List ℕ → ℕ → ℕ → Type 0
IsLinked parents j k = IsChild parents j k ⊎ IsChild parents k j

-- `node 0` to `node last` is a path: distinct nodes, of which each is linked to the next
pub record IsPath (parents : List ℕ) (node : ℕ → ℕ) (last : ℕ) : Type 0 where
  pub within : (k : ℕ) → k ≤ last → node k < length parents
  pub linked : (k : ℕ) → k < last → IsLinked parents (node k) (node (suc k))
  pub distinct : (j k : ℕ) → j < k → k ≤ last → node j ≢ node k

-- every node on the path between two nodes with P has it too
abbrev pub IsConnected : List ℕ → (ℕ → Type 0) → Type 0
IsConnected parents P =
    (node : ℕ → ℕ) (last : ℕ) → IsPath parents node last → P (node 0) → P (node last) → (k : ℕ)
    → k ≤ last → P (node k)
