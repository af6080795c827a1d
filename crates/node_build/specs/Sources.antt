-- What the nodes are filled from: a query over its tables, its join tree, and columns.
use Rattle.std.specs.Prelude.{ℕ, ◌<◌, List, [], length, slice_index, slice_index_or}
use Rattle.tdp_model.specs.KeyTuple.{KeyOf}
use Rattle.tdp_core.specs.RawView.{RawRowView}
use Rattle.tdp_core.specs.TreeView.{kids_below}
use Rattle.tdp_core.specs.declared.parts.NodeShape.{NodeShape}
use Rattle.node_build.specs.Columns.{HaveColumns}
use Rattle.node_build.specs.Links.{HasRowsOf, IsRowOf, NamesLinks}
use Rattle.rank_key.specs.Keys.{row_key}
use Rattle.node_build.specs.Nodes.{AreReady, IsRowAt, item_of, parent_of, row_parts}
use Rattle.node_build.specs.Rows.{lists_of}
use Rattle.node_build.specs.Shapes.{AreShapesOf}
use Rattle.node_build.specs.declared.source.NodeSource.{NodeSource}

module _ (source : NodeSource) where
  -- the number of nodes
  abbrev pub node_count : ℕ
  node_count = source.join.now.count

  -- the number of children of a node
  abbrev pub child_count : ℕ → ℕ
  child_count v = kids_below (parent_of source.join.now) v node_count

  -- for each node, its columns of the variables that it shares with its parent
  abbrev pub own_columns : List (List ℕ)
  own_columns = lists_of source.columns.now.own.items

  -- and its parent's columns of these
  abbrev pub above_columns : List (List ℕ)
  above_columns = lists_of source.columns.now.above.items

  -- the columns are those of all nodes
  abbrev pub HasColumns : Type 0
  HasColumns = HaveColumns source.query.now source.join.now node_count own_columns above_columns

  -- the query fits its tables, and a rank has room for it
  abbrev pub IsReady : (keys_room items_room most : ℕ) → Type 0
  IsReady keys items most = AreReady keys items most source.query.now source.tables.now
      source.join.now

  -- the table of a node's item has a row of this number
  abbrev pub HasRow : ℕ → ℕ → Type 0
  HasRow v row = IsRowAt source.query.now.query source.tables.now source.join.now v row

  -- the key of the rank of a row of node v
  abbrev pub rank_key_at : (d : ℕ) → ℕ → ℕ → KeyOf d 16
  rank_key_at d v row = row_key d
      (row_parts source.query.now source.tables.now (item_of source.join.now v) row)
      (item_of source.join.now v) row

  -- the shapes are those of all nodes
  abbrev pub HasShapes : List NodeShape → Type 0
  HasShapes shapes = AreShapesOf source.query.now source.tables.now source.join.now node_count
      shapes

  -- the links that a row of node v names for its children
  abbrev pub NamesChildren : List (List (List ℕ)) → ℕ → ℕ → List ℕ → Type 0
  NamesChildren lists v row children = NamesLinks source.query.now source.tables.now
      source.join.now own_columns above_columns lists v row node_count children

  -- the same of each of some rows
  abbrev pub NameChildren : List (List (List ℕ)) → ℕ → List ℕ → List (List ℕ) → Type 0
  NameChildren lists v rows named = (r : ℕ) → r < length rows
      → NamesChildren lists v (slice_index rows r) (slice_index_or named r [])

  -- the raw tree's row for a row of node v
  abbrev pub IsNodeRow : {R : Type 0} (d : ℕ) (key : R → KeyOf d 16) → List (List (List ℕ))
      → ℕ → ℕ → RawRowView R → Type 0
  IsNodeRow d key lists v row x = IsRowOf source.query.now source.tables.now source.join.now
      own_columns above_columns d key lists v row x

  -- the rows of node v are those of a list
  abbrev pub HasNodeRows : {R : Type 0} (d : ℕ) (key : R → KeyOf d 16) → List (List (List ℕ))
      → ℕ → List ℕ → List (RawRowView R) → Type 0
  HasNodeRows d key lists v rows xs = HasRowsOf source.query.now source.tables.now
      source.join.now own_columns above_columns d key lists v (length rows) rows xs
