-- The places of nodes among the children of their parents.
use Rattle.std.specs.Prelude.{◌≡◌, ℕ, ◌<◌, List, length, slice_index}
use Rattle.tdp_core.specs.TreeView.{NodeView, parent, child_count, child_place}

-- a list has the place of each node below the root
abbrev pub ArePlaces : {R : Type 0} → List (NodeView R) → List ℕ → Type 0
ArePlaces t places = (v : ℕ) → 0 < v → v < length t
    → (slice_index places v ≡ child_place t v) × (slice_index places v < child_count t (parent t v))
