-- The nodes of the trees that the tests build: a root of item 1 with one row, and one child of item
-- 0 with two rows.
use Rattle.std.specs.Prelude.{ℕ, List, [], ◌∷◌}
use Rattle.tdp_core.specs.declared.parts.NodeShape.{NodeShape}
use Rattle.tdp_core.specs.TreeView.{NodeView}

-- the caps of each node
abbrev pub small_caps : List ℕ
small_caps = 10 ∷ 10 ∷ 10 ∷ 10 ∷ 10 ∷ 10 ∷ 10 ∷ 10 ∷ []

-- a node of this item, which is the root or a child of it
abbrev pub small_shape : ℕ → NodeShape
small_shape item = record { parent = 0; item = item; caps = small_caps }

-- the root, whose row has one rank, and with the best row below it another
abbrev pub root_node : {R : Type 0} (top whole : R) → NodeView R
root_node top whole = record {
  shape = small_shape 1;
  rows = record { rank = top; row = 4 } ∷ [];
  to_child = (0 ∷ []) ∷ [];
  groups = (0 ∷ []) ∷ [];
  best = whole ∷ [];
}

-- the child, whose second row has the lesser rank
abbrev pub leaf_node : {R : Type 0} (later sooner : R) → NodeView R
leaf_node later sooner = record {
  shape = small_shape 0;
  rows = record { rank = later; row = 3 } ∷ record { rank = sooner; row = 1 } ∷ [];
  to_child = [] ∷ [] ∷ [];
  groups = (1 ∷ 0 ∷ []) ∷ [];
  best = later ∷ sooner ∷ [];
}
