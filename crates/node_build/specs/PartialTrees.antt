-- A raw tree that is filled node by node.
use Rattle.std.specs.Prelude.{◌≡◌, ◌≢◌, ◌<◌, ◌≤◌, ◌+◌, ℕ, List, [], length, slice_index_or, take}
use Rattle.std.specs.List.{sum_by}
use Rattle.tdp_model.specs.KeyTuple.{KeyOf}
use Rattle.tdp_core.specs.RawView.{RawView, row_total, rows_at}
use Rattle.join_tree.specs.declared.tree.JoinTree.{JoinTree}
use Rattle.anyk_model.specs.Table.{Table}
use Rattle.bound_query.specs.WeighedQuery.{BoundQuery}
use Rattle.node_build.specs.Columns.{HaveColumns}
use Rattle.node_build.specs.Links.{HasRowsOf}

-- node v has n rows more, and the other nodes have the same rows as before
pub record HasOnlyMore {R : Type 0} (v n : ℕ) (old new : RawView R) : Type 0 where
  pub shapes : new.shapes ≡ old.shapes
  pub each_node : length new.rows ≡ length old.rows
  pub others : (u : ℕ) → u ≢ v → rows_at new u ≡ rows_at old u
  pub total : row_total new ≡ row_total old + n

-- the first n nodes have their rows, and the others have none
pub record AreFilled {R : Type 0} (bound : BoundQuery) (tables : List Table) (join : JoinTree)
    (own above : List (List ℕ)) (d : ℕ) (key : R → KeyOf d 16)
    (lists : List (List (List ℕ))) (n : ℕ) (rows : List (List ℕ)) (tree : RawView R) : Type 0 where
  pub each_node : length tree.rows ≡ join.count
  pub filled : (v : ℕ) → v < n
      → HasRowsOf bound tables join own above d key lists v (length (slice_index_or rows v []))
      (slice_index_or rows v []) (rows_at tree v)
  pub empty : (v : ℕ) → n ≤ v → rows_at tree v ≡ []
  pub total : row_total tree ≡ sum_by length (take n rows)

-- the nodes have their rows, with links by the columns of shared variables
pub record IsFilledTree {R : Type 0} (bound : BoundQuery) (tables : List Table) (join : JoinTree)
    (d : ℕ) (key : R → KeyOf d 16)
    (rows : List (List ℕ)) (tree : RawView R) : Type 0 where
  pub own : List (List ℕ)
  pub above : List (List ℕ)
  pub lists : List (List (List ℕ))
  pub columns : HaveColumns bound join join.count own above
  pub filled : AreFilled bound tables join own above d key lists join.count rows tree
