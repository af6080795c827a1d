-- The trees that the tests build: a root with two children, whose rows are numbered by their
-- places.
use Rattle.std.specs.Prelude.{◌≡◌, ℕ, ◌<◌, cond, nat_eq, List, [], ◌∷◌, length}
use Rattle.tdp_core.specs.declared.parts.NodeShape.{NodeShape}
use Rattle.tdp_core.specs.RawView.{RawView, raw_len, raw_number}

-- the caps of each node
abbrev pub hundreds : List ℕ
hundreds = 100 ∷ 100 ∷ 100 ∷ 100 ∷ 100 ∷ 100 ∷ 100 ∷ 100 ∷ []

-- the root, whose item is 0, and its children, whose items are 1 and 2
abbrev pub sample_shapes : List NodeShape
sample_shapes = record { parent = 0; item = 0; caps = hundreds }
    ∷ record { parent = 0; item = 1; caps = hundreds }
    ∷ record { parent = 0; item = 2; caps = hundreds } ∷ []

-- how many children node v has
abbrev pub sample_children : ℕ → ℕ
sample_children v = cond (nat_eq v 0) 2 0

-- a raw tree of these nodes, in which the number of each row is its place at its node
pub record IsSample {R : Type 0} (t : RawView R) : Type 0 where
  pub shapes : t.shapes ≡ sample_shapes
  pub every_node : length t.rows ≡ 3
  pub numbered : (v i : ℕ) → i < raw_len t v → raw_number t v i ≡ i
