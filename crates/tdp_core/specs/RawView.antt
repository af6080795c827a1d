-- What contracts see of a raw tree.
use Rattle.std.specs.Prelude.{◌≡◌, ℕ, ◌≤◌, ◌<◌, List, [], ◌∷◌, ◌++◌, map, length, slice_index, slice_index_or, slice_get, slice_set, Option}
use Rattle.tdp_model.specs.NodeRows.{most_node_rows}
use Rattle.std.specs.List.{All, sum_by}
use Rattle.tdp_model.specs.KeyTuple.{KeyOf, key_none}
use Rattle.tdp_core.specs.declared.parts.NodeShape.{NodeShape}
use Rattle.tdp_core.specs.declared.parts.NodeRow.{NodeRow}
pub use Rattle.tdp_core.specs.RawRows.{RawRowView}
use Rattle.tdp_core.specs.TreeView.{kids_below, cap_of}
use Rattle.tdp_core.specs.WellFormed.{AreHeld, IsShaped, RowFits}

-- the nodes' shapes, and the rows of each node
pub record RawView (R : Type 0) : Type 0 where
  pub shapes : List NodeShape
  pub rows : List (List (RawRowView R))

-- # Shapes

abbrev pub shape_at : List NodeShape → ℕ → NodeShape
shape_at shapes v = slice_index_or shapes v (record { parent = 0; item = 0; caps = [] })

abbrev pub shape_parent : List NodeShape → ℕ → ℕ
shape_parent shapes q = (shape_at shapes q).parent

abbrev pub shape_item : List NodeShape → ℕ → ℕ
shape_item shapes v = (shape_at shapes v).item

abbrev pub shape_cap : List NodeShape → ℕ → ℕ → ℕ
shape_cap shapes v i = cap_of (shape_at shapes v) i

abbrev pub AreShapes : List NodeShape → Type 0
AreShapes shapes = IsShaped (length shapes) (shape_parent shapes) (shape_item shapes)
    (shape_cap shapes)

-- each key that rows of nodes with these shapes can add up to is that of a rank
abbrev pub AreShapesHeld : {R : Type 0} (d : ℕ) → (R → KeyOf d 16) → List NodeShape → Type 0
AreShapesHeld d key shapes = AreHeld d key (length shapes) (shape_item shapes) (shape_cap shapes)

-- how many children node v has
abbrev pub shape_children : List NodeShape → ℕ → ℕ
shape_children shapes v = kids_below (shape_parent shapes) v (length shapes)

-- the place of node q among its parent's children
abbrev pub shape_child_place : List NodeShape → ℕ → ℕ
shape_child_place shapes q = kids_below (shape_parent shapes) (shape_parent shapes q) q

-- # Rows

-- the rows of node v
abbrev pub rows_at : {R : Type 0} → RawView R → ℕ → List (RawRowView R)
rows_at t v = slice_index_or t.rows v []

-- how many rows there are in all
abbrev pub row_total : {R : Type 0} → RawView R → ℕ
row_total t = sum_by length t.rows

-- the tree with one more row at node v
abbrev pub with_row : {R : Type 0} → RawView R → ℕ → RawRowView R → RawView R
with_row t v x = record { shapes = t.shapes; rows = slice_set t.rows v (rows_at t v ++ x ∷ []) }

-- the tree with these rows at node v in place of those there
abbrev pub with_rows : {R : Type 0} → RawView R → ℕ → List (RawRowView R) → RawView R
with_rows t v xs = record { shapes = t.shapes; rows = slice_set t.rows v xs }

module _ {R : Type 0} (t : RawView R) where
  -- how many rows node v has
  abbrev pub raw_len : ℕ → ℕ
  raw_len v = length (rows_at t v)

  -- row r of node v, if there is one
  abbrev pub raw_row_at : ℕ → ℕ → Option (NodeRow R)
  raw_row_at v r = slice_get (map (λ x. x.row) (rows_at t v)) r

  -- its number in the table of the node's item; 0 past the last row, here and below
  abbrev pub raw_number : ℕ → ℕ → ℕ
  raw_number v r = slice_index (map (λ x. x.row.row) (rows_at t v)) r

  -- its own link
  abbrev pub own_link : ℕ → ℕ → ℕ
  own_link v r = slice_index (map (λ x. x.own) (rows_at t v)) r

  -- the link that it names for child number c of its node
  abbrev pub child_link : ℕ → ℕ → ℕ → ℕ
  child_link v r c = slice_index (slice_index_or (map (λ x. x.children) (rows_at t v)) r []) c

  -- its key
  module _ (d : ℕ) (key : R → KeyOf d 16) where
    abbrev pub raw_rank : ℕ → ℕ → KeyOf d 16
    raw_rank v r = slice_index_or (map (λ x. key x.row.rank) (rows_at t v)) r (key_none d 16)

-- a row that node v can have
abbrev pub RawRowFits : {R : Type 0} (d : ℕ) (key : R → KeyOf d 16) → List NodeShape → ℕ
    → RawRowView R → Type 0
RawRowFits d key shapes v x =
    RowFits d (shape_item shapes v) (shape_cap shapes v) x.row.row (key x.row.rank)
    × (length x.children ≡ shape_children shapes v)

pub record IsRawFormed {R : Type 0} (d : ℕ) (key : R → KeyOf d 16) (t : RawView R) : Type 0 where
  pub shaped : AreShapes t.shapes
  pub held : AreShapesHeld d key t.shapes
  pub each_node : length t.rows ≡ length t.shapes
  pub few_rows : row_total t ≤ most_node_rows
  pub rows_fit : (v : ℕ) → v < length t.shapes → All (RawRowFits d key t.shapes v) (rows_at t v)
