-- Links: one number for the values that a row has in some columns.
use Rattle.std.specs.Prelude.{◌≡◌, ◌<◌, ◌-◌, ℕ, List, [], ◌∷◌, map, length, slice_index, slice_index_or, slice_get, Some}
use Rattle.rank_key.specs.Keys.{row_key}
use Rattle.tdp_model.specs.KeyTuple.{KeyOf}
use Rattle.tdp_core.specs.TreeView.{kids_below}
use Rattle.tdp_core.specs.RawView.{RawRowView}
use Rattle.join_tree.specs.declared.tree.JoinTree.{JoinTree}
use Rattle.anyk_model.specs.Table.{Table, field_at}
use Rattle.table_store.specs.Values.{number_of}
use Rattle.link_index.specs.NumberedLists.{IsNumbered}
use Rattle.bound_query.specs.WeighedQuery.{BoundQuery}
use Rattle.bound_query.specs.Weights.{table_in}
use Rattle.node_build.specs.Nodes.{item_of, parent_of, row_parts}

-- the numbers of the fields that a row has in some columns
abbrev pub values_in : List Table → Table → ℕ → List ℕ → List ℕ
values_in tables table row columns = map
    (λ (c : ℕ). number_of tables (field_at table (row - 1) c)) columns

-- the link of a list of values at node q: 0 if there is none, one value itself, and of several the
-- number of their list
abbrev pub IsLink : List (List (List ℕ)) → ℕ → ℕ → List ℕ → Type 0
IsLink lists q n [] = n ≡ 0
IsLink lists q n (value ∷ []) = n ≡ value
IsLink lists q n (first ∷ second ∷ rest) = IsNumbered lists q n (first ∷ second ∷ rest)

-- the links at node q of the values that each of some rows has in some columns
pub record AreLinks (lists : List (List (List ℕ))) (q : ℕ) (tables : List Table) (table : Table)
    (rows columns numbers : List ℕ) : Type 0 where
  pub count : length numbers ≡ length rows
  pub each : (r : ℕ) → r < length rows
      → IsLink lists q (slice_index numbers r)
      (values_in tables table (slice_index rows r) columns)

module _ (bound : BoundQuery) (tables : List Table) (join : JoinTree)
    (own above : List (List ℕ)) where
  -- the values that a row of node v has in some columns
  abbrev pub values_at : ℕ → ℕ → List ℕ → List ℕ
  values_at v row columns = values_in tables
      (table_in tables bound.query.items (item_of join v)) row columns

  -- the links that a row of node v names for the first n nodes
  abbrev pub NamesLinks : List (List (List ℕ)) → ℕ → ℕ → ℕ → List ℕ → Type 0
  NamesLinks lists v row n children =
      (q : ℕ) → 0 < q → q < n → parent_of join q ≡ v
      → IsLink lists q (slice_index children (kids_below (parent_of join) v q))
      (values_at v row (slice_index_or above q []))

  -- the raw tree's row for a row of node v
  pub record IsRowOf {R : Type 0} (d : ℕ) (key : R → KeyOf d 16) (lists : List (List (List ℕ)))
      (v row : ℕ) (x : RawRowView R) : Type 0 where
    pub number : x.row.row ≡ row
    pub rank : key x.row.rank
        ≡ row_key d (row_parts bound tables (item_of join v) row) (item_of join v) row
    pub link : IsLink lists v x.own (values_at v row (slice_index_or own v []))
    pub children : NamesLinks lists v row join.count x.children

  -- the rows of node v are the first n of a list
  pub record HasRowsOf {R : Type 0} (d : ℕ) (key : R → KeyOf d 16) (lists : List (List (List ℕ)))
      (v n : ℕ) (rows : List ℕ) (xs : List (RawRowView R)) : Type 0 where
    pub count : length xs ≡ n
    pub each : (r : ℕ) (x : RawRowView R) → slice_get xs r ≡ Some x
        → IsRowOf d key lists v (slice_index rows r) x
