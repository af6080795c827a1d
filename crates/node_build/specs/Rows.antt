-- The rows of nodes, collected one node after another.
use Rattle.std.specs.Prelude.{◌≡◌, ◌≤◌, ◌<◌, ◌*◌, ℕ, List, [], length, slice_index_or}
use Rattle.std.specs.List.{sum_by}
use Rattle.join_tree.specs.declared.tree.JoinTree.{JoinTree}
use Rattle.anyk_model.specs.Table.{Table}
use Rattle.anyk_model.specs.Query.{Query, item_table}
pub use Rattle.table_store.specs.Values.{lists_of}
use Rattle.node_build.specs.Nodes.{AreNodeRows, item_of}

-- how many rows the table of a node's item has
abbrev pub table_rows : Query → List Table → JoinTree → ℕ → ℕ
table_rows query tables join v = length (item_table query tables (item_of join v)).rows

-- the rows of the first n nodes
pub record HaveRows (query : Query) (tables : List Table) (join : JoinTree) (n : ℕ)
    (rows : List (List ℕ)) : Type 0 where
  pub count : length rows ≡ n
  pub each : (v : ℕ) → v < n → AreNodeRows query tables (item_of join v) (slice_index_or rows v [])
  pub fewer : (v : ℕ) → v < n → length (slice_index_or rows v []) ≤ table_rows query tables join v
  pub limit : sum_by length rows ≤ n * 1048576
