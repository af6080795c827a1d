-- The rows of a node with their links, and the columns in which they lie.
use Rattle.std.specs.Prelude.{◌≡◌, ℕ, List, [], ◌∷◌, length}
use Rattle.tdp_core.specs.declared.parts.NodeRow.{NodeRow}
use Rattle.tdp_core.specs.declared.raw_rows.RawColumns.{RawColumns}

-- a row, its own link, and the link that it names for each child of its node
pub record RawRowView (R : Type 0) : Type 0 where
  pub row : NodeRow R
  pub own : ℕ
  pub children : List ℕ

-- each row beside its own link and the links that it names
abbrev pub raw_rows : {R : Type 0} → List (NodeRow R) → List ℕ → List (List ℕ)
    → List (RawRowView R)
raw_rows [] owns named = []
raw_rows (row ∷ rows) [] named = []
raw_rows (row ∷ rows) (own ∷ owns) [] = []
raw_rows (row ∷ rows) (own ∷ owns) (children ∷ named) =
    record { row = row; own = own; children = children } ∷ raw_rows rows owns named

-- there are links for each row
pub record AreRawRows {R : Type 0} (rows : List (NodeRow R)) (owns : List ℕ)
    (named : List (List ℕ)) : Type 0 where
  pub all_own : length owns ≡ length rows
  pub all_named : length named ≡ length rows

-- the same of columns
abbrev pub rows_of : {R : Type 0} → RawColumns R → List (RawRowView R)
rows_of c = raw_rows c.rows c.owns.items c.named.rows

abbrev pub AreWhole : {R : Type 0} → RawColumns R → Type 0
AreWhole c = AreRawRows c.rows c.owns.items c.named.rows
