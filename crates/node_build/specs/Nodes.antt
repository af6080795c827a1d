-- The nodes of a join tree, with the rows of their items and the links of these.
use Rattle.std.specs.Prelude.{◌≡◌, ◌↔◌, ◌⊎◌, ◌<◌, ◌≤◌, ℕ, ℤ, nat_lt, cond, List, [], map, length, slice_index, slice_index_or, take}
use Rattle.std.specs.List.{sum_by}
use Rattle.rankings.specs.Order.{IsMember, IsAscending}
use Rattle.hyper_graph.specs.Graph.{Hypergraph}
use Rattle.hyper_graph.specs.JoinTrees.{IsJoinTree}
use Rattle.join_tree.specs.declared.tree.JoinTree.{JoinTree}
use Rattle.tdp_model.specs.KeyTuple.{KeyOf}
use Rattle.rank_key.specs.Keys.{row_key}
use Rattle.tdp_core.specs.RawView.{RawView, child_link, own_link, raw_len, raw_number, raw_rank, rows_at, shape_cap, shape_child_place, shape_item, shape_parent}
use Rattle.anyk_model.specs.Table.{Table}
use Rattle.anyk_model.specs.Query.{Query}
use Rattle.bound_query.specs.Classes.{HasVariable, IsPassing, row_field}
use Rattle.bound_query.specs.Graph.{IsGraphOf}
use Rattle.bound_query.specs.KeyParts.{numbers_of, sum_of_all}
use Rattle.bound_query.specs.WeighedQuery.{BoundQuery, Fits}
use Rattle.bound_query.specs.Weights.{cap_of, key_at, part_of, table_in}
use Rattle.node_build.specs.declared.built.BuildFault.{BuildFault}
use Rattle.node_build.specs.declared.built.BuildFault.TheVariants as fault

-- the tree is a join tree of the query's graph, with one node for each item
pub record IsJoinTreeOf (query : Query) (join : JoinTree) : Type 0 where
  pub count : join.count ≡ length query.items
  pub graph : Hypergraph
  pub of_query : IsGraphOf query graph
  pub tree : IsJoinTree graph (take join.count join.atom) (take join.count join.parent)

-- the item of a node
abbrev pub item_of : JoinTree → ℕ → ℕ
item_of join v = slice_index join.atom v

-- its parent
abbrev pub parent_of : JoinTree → ℕ → ℕ
parent_of join v = slice_index join.parent v

-- exactly the rows of an item that pass, in ascending order
pub record AreNodeRows (query : Query) (tables : List Table) (item : ℕ)
    (rows : List ℕ) : Type 0 where
  pub ascending : IsAscending (λ a b. a < b) rows
  pub members : (row : ℕ) → IsMember row rows ↔ IsPassing query tables item row

module _ (bound : BoundQuery) (tables : List Table) where
  -- the rows of each node of a join tree are given
  pub record AreRowsOfNodes (join : JoinTree) (rows : List (List ℕ)) : Type 0 where
    pub count : length rows ≡ join.count
    pub each : (v : ℕ) → v < join.count
        → AreNodeRows bound.query tables (item_of join v) (slice_index_or rows v [])

  -- a row of item i and a row of item j have the same bytes in each variable that both items have
  abbrev pub RowsAgree : ℕ → ℕ → ℕ → ℕ → Type 0
  RowsAgree i j row other =
      (number p q : ℕ) → HasVariable bound.query.equalities bound.variables i number p
      → HasVariable bound.query.equalities bound.variables j number q
      → row_field bound.query tables i row p ≡ row_field bound.query tables j other q

  -- two rows of item i have the same bytes in each variable that items i and j have
  abbrev pub RowsAlike : ℕ → ℕ → ℕ → ℕ → Type 0
  RowsAlike i j row other =
      (number p q : ℕ) → HasVariable bound.query.equalities bound.variables i number p
      → HasVariable bound.query.equalities bound.variables j number q
      → row_field bound.query tables i row p ≡ row_field bound.query tables i other p

  -- the greatest absolute part that a row of an item may have of a key, and 0 past the last key
  abbrev pub cap_at : ℕ → ℕ → ℕ
  cap_at item key = cond (nat_lt key (length bound.query.order))
      (cap_of tables bound.query.items item (key_at bound.query.order key)) 0

  -- the parts of a row, key by key
  abbrev pub row_parts : ℕ → ℕ → List ℤ
  row_parts item row = map (part_of tables bound.query.items item row) bound.query.order

  -- the raw tree of a join tree
  pub record IsBuilt {R : Type 0} (d : ℕ) (key : R → KeyOf d 16) (join : JoinTree)
      (tree : RawView R) : Type 0 where
    pub nodes : length tree.shapes ≡ join.count
    pub parents : (v : ℕ) → v < join.count → shape_parent tree.shapes v ≡ parent_of join v
    pub items : (v : ℕ) → v < join.count → shape_item tree.shapes v ≡ item_of join v
    pub caps : (v i : ℕ) → v < join.count → shape_cap tree.shapes v i ≡ cap_at (item_of join v) i
    pub rows : (v : ℕ) → v < join.count
        → AreNodeRows bound.query tables (item_of join v) (map (λ x. x.row.row) (rows_at tree v))
    pub ranks : (v r : ℕ) → v < join.count → r < raw_len tree v
        → raw_rank tree d key v r
        ≡ row_key d (row_parts (item_of join v) (raw_number tree v r)) (item_of join v)
        (raw_number tree v r)
    -- a row of a node and a row of its parent have one link exactly if they agree on the variables
    -- that both items have
    pub links : (q i r : ℕ) → 0 < q → q < join.count → i < raw_len tree q
        → r < raw_len tree (parent_of join q)
        → (own_link tree q i
        ≡ child_link tree (parent_of join q) r (shape_child_place tree.shapes q))
        ↔ RowsAgree (item_of join q) (item_of join (parent_of join q)) (raw_number tree q i)
        (raw_number tree (parent_of join q) r)
    -- and two rows of the node exactly if they agree on them
    pub own_links : (q i j : ℕ) → 0 < q → q < join.count → i < raw_len tree q → j < raw_len tree q
        → (own_link tree q i ≡ own_link tree q j)
        ↔ RowsAlike (item_of join q) (item_of join (parent_of join q)) (raw_number tree q i)
        (raw_number tree q j)

  -- the nodes have more rows, all together, than the budget
  pub record PassesBudget (join : JoinTree) (budget : ℕ) : Type 0 where
    pub rows : List (List ℕ)
    pub of_nodes : AreRowsOfNodes join rows
    pub past : budget < sum_by length rows

  -- a fault that may be returned
  abbrev pub TellsFault : JoinTree → ℕ → BuildFault → Type 0
  TellsFault join budget answer = (answer ≡ fault.NoMemory)
      ⊎ ((answer ≡ fault.TooManyRows budget) × PassesBudget join budget)

-- for each key, the caps of all items add up to less than `limit`
abbrev pub CapsBelow : (limit : ℕ) → BoundQuery → List Table → Type 0
CapsBelow limit bound tables =
    (key : ℕ)
    → sum_of_all (map (λ item. cap_at bound tables item key) (numbers_of bound.query.items)) < limit

-- the query fits its tables, the tree is its join tree, and a rank has room for so many keys and
-- items and for parts whose caps add up to less than `most`
pub record AreReady (keys_room items_room most : ℕ) (bound : BoundQuery) (tables : List Table)
    (join : JoinTree) : Type 0 where
  pub fits : Fits bound tables
  pub keys : length bound.query.order ≤ keys_room
  pub slots : length bound.query.items ≤ items_room
  pub limit : CapsBelow most bound tables
  pub tree : IsJoinTreeOf bound.query join

-- the table of a node's item has a row of this number
pub record IsRowAt (query : Query) (tables : List Table) (join : JoinTree)
    (v row : ℕ) : Type 0 where
  pub node : v < join.count
  pub first : 1 ≤ row
  pub row_there : row ≤ length (table_in tables query.items (item_of join v)).rows
