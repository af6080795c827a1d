-- The trees that the tests of the reduction build: three nodes, each below the one before.
use Rattle.std.specs.Prelude.{◌≡◌, ℕ, ◌<◌, cond, nat_lt, List, length}
use Rattle.tdp_core.specs.declared.parts.NodeShape.{NodeShape}
use Rattle.tdp_core.specs.RawView.{shape_children}

-- how many children node v has
abbrev pub chain_children : ℕ → ℕ
chain_children v = cond (nat_lt v 2) 1 0

-- the shapes of three nodes in a chain
pub record IsChain (shapes : List NodeShape) : Type 0 where
  pub nodes : length shapes ≡ 3
  pub children : (v : ℕ) → v < 3 → shape_children shapes v ≡ chain_children v
