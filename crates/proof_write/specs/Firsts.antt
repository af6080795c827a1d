-- The first solutions of the groups of a tree, and the bounds that they are.
use Rattle.std.specs.Prelude.{◌≡◌, ◌≢◌, ℕ, ◌+◌, ◌<◌, ◌≤◌, suc, nat_lt, List, [], filter, length}
use Rattle.std.specs.Prelude.{slice_index, slice_index_or}
use Rattle.std.specs.List.Sorted.{IsPermutation, IsSorted}
use Rattle.std.specs.Ordering.{nat_cmp}
use Rattle.std.specs.Cmp.Lexicographic.{slice_cmp}
use Rattle.tdp_model.specs.Below.{is_below}
use Rattle.tdp_core.specs.TreeView.{NodeView, group, group_count, item, members, number, parent, rows}
use Rattle.proof_model.specs.Certificate.{BoundLine}
use Rattle.proof_model.specs.WrittenProofs.{BoundBefore}

-- the rows that there are, if rows count from 1 and 0 stands for none
abbrev pub listed : List ℕ → List ℕ
listed rows = filter (λ row. nat_lt 0 row) rows

module _ {R : Type 0} (tree : List (NodeView R)) where
  -- rows count from 1, and no two rows of a node have one number
  pub record AreTold : Type 0 where
    pub positive : (v r : ℕ) → v < length tree → r < rows tree v → 1 ≤ number tree v r
    pub apart : (v r s : ℕ) → v < length tree → r < rows tree v → s < rows tree v
        → number tree v r ≡ number tree v s → r ≡ s

  -- node q is in the subtree of node v
  abbrev pub IsUnder : ℕ → ℕ → Type 0
  IsUnder v q = (q < length tree) × (0 < is_below (parent tree) v q)

  -- the row numbers, by item, of the first solution of group g of node v
  pub record IsFirst (v g : ℕ) (numbers : List ℕ) : Type 0 where
    pub count : length numbers ≡ 16
    -- the row of each node of the subtree: at v the first one of the group, and at the others the
    -- first one of the group that the row of the node's parent names
    pub chosen : ℕ → ℕ
    pub top : chosen v ≡ slice_index (members tree v g) 0
    pub named : (q : ℕ) → v < q → IsUnder v q
        → chosen q ≡ slice_index (group tree q (chosen (parent tree q))) 0
    -- their numbers, and 0 for the items of the other nodes
    pub own : (q : ℕ) → IsUnder v q → slice_index numbers (item tree q) ≡ number tree q (chosen q)
    pub others : (i : ℕ) → ((q : ℕ) → IsUnder v q → item tree q ≢ i) → slice_index numbers i ≡ 0

  -- the first solutions of the groups of node v, by item, in the order of their rows
  pub record AreFirsts (v : ℕ) (firsts : List (List ℕ)) : Type 0 where
    pub by_group : List (List ℕ)
    pub count : length by_group ≡ group_count tree v
    pub each : (g : ℕ) → g < group_count tree v → IsFirst v g (slice_index_or by_group g [])
    pub same : IsPermutation by_group firsts
    pub sorted : IsSorted (slice_cmp nat_cmp) firsts

  -- the bound of group g of node v
  pub record IsBoundLine (v g : ℕ) (bound : BoundLine) : Type 0 where
    pub node : bound.node ≡ suc v
    pub numbers : List ℕ
    pub first : IsFirst v g numbers
    pub rows : bound.rows ≡ listed numbers

  abbrev pub bound_at : List BoundLine → ℕ → BoundLine
  bound_at bounds i = slice_index_or bounds i (record { line = 0; node = 0; rows = [] })

  -- the bounds of the groups of the first n nodes, in order, on the lines from number 2 on
  pub record AreBounds (n : ℕ) (bounds : List BoundLine) : Type 0 where
    pub ordered : (i j : ℕ) → i < j → j < length bounds
        → BoundBefore (bound_at bounds i) (bound_at bounds j)
    pub lines : (i : ℕ) → i < length bounds → (bound_at bounds i).line ≡ i + 2
    pub firsts : (i : ℕ) → i < length bounds
        → (v g : ℕ) × (v < n) × (g < group_count tree v) × IsBoundLine v g (bound_at bounds i)
    pub each : (v g : ℕ) → v < n → g < group_count tree v
        → (i : ℕ) × (i < length bounds) × IsBoundLine v g (bound_at bounds i)
