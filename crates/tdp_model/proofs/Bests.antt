-- The best of each row of a tree is the least key of the row's subtree solutions.
use Rattle.std.proofs.Common.{ℕ, ◌+◌, ◌<◌, ◌≤◌, List, inr}
use Rattle.tdp_model.specs.KeyLaws.{IsKeys}
use Rattle.tdp_model.specs.TreeProblem.{RowHas, IsTree}
use Rattle.tdp_model.proofs.LeastKeys.{least_had}

module _ {K : Type 0} (Below : K → K → Type 0) (add : K → K → K) (none : K) (keys : IsKeys K Below add none)
    (m : ℕ) (parent : ℕ → ℕ) (rank : ℕ → ℕ → K) (group : ℕ → ℕ → List ℕ) (best : ℕ → ℕ → K) (IsRow : ℕ → ℕ → Type 0)
    (tree : IsTree K Below add none m parent rank group best IsRow) where
  -- the row's best is the key of a subtree solution
  pub best_had : (d v r : ℕ) → m ≤ d + v → v < m → IsRow v r → RowHas add none m parent rank group d v r (best v r)
  best_had = least_had Below add none keys m parent rank group best IsRow
      (λ q r i some l up h. tree.rows q r i l (inr up) h) (λ q r some l up. tree.inhabited q r l (inr up))
      (λ q r i some l up p h. tree.heap q r i l (inr up) p h) tree.bests
