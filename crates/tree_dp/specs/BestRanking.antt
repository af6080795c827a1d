-- The best solutions of the rows of a tree's root.
use Rattle.std.specs.Prelude.{◌≡◌, ℕ, ◌<◌, List}
use Rattle.rankings.specs.Order.{IsRanking}
use Rattle.tdp_model.specs.KeyTuple.{KeyOf, key_below}
use Rattle.tdp_core.specs.TreeView.{NodeView, rows, best}

-- these are the least keys of the root's rows, each once, in ascending order
abbrev pub IsBestRanking : {R : Type 0} → List (NodeView R) → (d : ℕ) (key : R → KeyOf d 16)
    → List (KeyOf d 16) → Type 0
IsBestRanking t d key ks = IsRanking (KeyOf d 16) (key_below d 16)
    (λ k. (r : ℕ) × (r < rows t 0) × (k ≡ best t d key 0 r)) ks
