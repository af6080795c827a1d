-- The join tree of a query, and its node rows. These are relations, since the classes of columns
-- are given by a closure and not computed.
use Rattle.std.specs.Prelude.{◌≡◌, ◌↔◌, ℕ, ◌+◌, ◌<◌, ◌≤◌, List, length, slice_index, Result, Ok, Err}
use Rattle.tdp_model.specs.NodeRows.{most_node_rows}
use Rattle.hyper_graph.specs.Graph.{Hypergraph, IsIn}
use Rattle.hyper_graph.specs.JoinTrees.{IsJoinTree, HasJoinTree}
use Rattle.join_tree.specs.Removal.{IsRemoval, IsTreeOf}
use Rattle.anyk_model.specs.Table.{Table}
use Rattle.anyk_model.specs.Query.{Query}
use Rattle.rankings.specs.Order.{IsMember, IsAscending}
use Rattle.bound_query.specs.Classes.{IsPassing}
use Rattle.bound_query.specs.Graph.{IsGraphOf}
use Rattle.bound_query.specs.KeyParts.{sum_of_all}

-- why a query has no shape: its core, as items from 1, or too many node rows
pub data Flaw : Type 0 where
  cyclic : List ℕ → Flaw
  too_many_rows : Flaw

-- an atom of the core, with its number from 1
abbrev pub IsInCore : ℕ → ℕ → Type 0
IsInCore core item = (a : ℕ) × (item ≡ 1 + a) × IsIn core a

-- no join tree exists, and these items, in ascending order, are left when there is no ear any more
pub record IsCyclic (query : Query) (items : List ℕ) : Type 0 where
  pub graph : Hypergraph
  pub of_query : IsGraphOf query graph
  pub no_tree : HasJoinTree graph → ⊥
  pub parent : List ℕ
  pub order : List ℕ
  pub removed : ℕ
  pub core : ℕ
  pub removal : IsRemoval graph parent order removed core
  pub ascending : IsAscending (λ a b. a < b) items
  pub members : (item : ℕ) → IsMember item items ↔ IsInCore core item

-- the join tree that ear removal gives: the nodes' items in order, each with the node above it
pub record HasTree (query : Query) (atoms parents : List ℕ) : Type 0 where
  pub graph : Hypergraph
  pub of_query : IsGraphOf query graph
  pub parent : List ℕ
  pub order : List ℕ
  pub removed : ℕ
  pub core : ℕ
  pub removal : IsRemoval graph parent order removed core
  pub tree : IsTreeOf parent order removed core atoms parents
  pub join_tree : IsJoinTree graph atoms parents

-- the nodes' items in order, each with the node above it, and the number of each node's rows
pub record Shape : Type 0 where
  pub atoms : List ℕ
  pub parents : List ℕ
  pub node_rows : List ℕ

-- this many rows of an item pass
pub record HasNodeRows (query : Query) (tables : List Table) (item count : ℕ) : Type 0 where
  pub rows : List ℕ
  pub ascending : IsAscending (λ a b. a < b) rows
  pub members : (row : ℕ) → IsMember row rows ↔ IsPassing query tables item row
  pub counted : length rows ≡ count

-- the join tree, with the numbers of its node rows
pub record HasShape (query : Query) (tables : List Table) (shape : Shape) : Type 0 where
  pub hung : HasTree query shape.atoms shape.parents
  pub counts : length shape.node_rows ≡ length shape.atoms
  pub rows : (k : ℕ) → k < length shape.atoms
      → HasNodeRows query tables (slice_index shape.atoms k) (slice_index shape.node_rows k)

-- the shape, or no join tree exists, or there are too many node rows
abbrev pub IsShape : Query → List Table → Result Shape Flaw → Type 0
IsShape query tables (Ok shape) = HasShape query tables shape
    × (sum_of_all shape.node_rows ≤ most_node_rows)
IsShape query tables (Err (cyclic items)) = IsCyclic query items
IsShape query tables (Err too_many_rows) = (shape : Shape) × HasShape query tables shape
    × (most_node_rows < sum_of_all shape.node_rows)
