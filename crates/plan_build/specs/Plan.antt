-- The plan of a query: the tree problem whose solutions are the query's witnesses.
use Rattle.std.specs.Prelude.{◌≡◌, ◌↔◌, ◌⊎◌, ℕ, ◌<◌, ◌≤◌, List, Contains, map, length, slice_index, take, Ok, Option, None, Some}
use Rattle.rankings.specs.Order.{IsAscending, IsMember}
use Rattle.tdp_model.specs.KeyTuple.{KeyOf}
use Rattle.tdp_core.specs.TreeView.{NodeView, group, item, node_at, number, parent, rank, row_count, rows}
use Rattle.tdp_core.specs.Solutions.{Extends, IsTreeRanking, IsTreeSolution, solution_key}
use Rattle.tdp_core.specs.WellFormed.{IsTieFreeTree}
use Rattle.anyk_model.specs.Table.{Table}
use Rattle.anyk_model.specs.Query.{Query, IsWitness}
use Rattle.anyk_model.specs.Ranking.{ranking_of}
use Rattle.bound_query.specs.Classes.{IsPassing}
use Rattle.bound_query.specs.KeyParts.{sum_of_all}
use Rattle.bound_query.specs.WeighedQuery.{BoundQuery}
use Rattle.bound_query.specs.Weights.{part_of}
use Rattle.rank_key.specs.Keys.{row_key}
use Rattle.join_tree.specs.Rerooting.{IsSameTree, IsTree}
use Rattle.join_tree.specs.declared.tree.JoinTree.{JoinTree}
use Rattle.bound_query.specs.Shape.{IsShape, Shape}
use Rattle.bound_query.specs.JoinTreeView.{HasItems}
use Rattle.node_build.specs.Nodes.{IsJoinTreeOf, RowsAgree, RowsAlike}
use Rattle.semi_join.specs.ReducedTrees.{ShareGroup}
use Rattle.bound_query.specs.Report.{total_rows}
use Rattle.witness_key.specs.WitnessKey.{witness_key}

-- a solved tree, its join tree, the number of rows of each node before the reduction, and the
-- number of rows of the tables of all items and of the nodes together
pub record PlanView (R : Type 0) : Type 0 where
  pub tree : List (NodeView R)
  pub join : JoinTree
  pub node_rows : List ℕ
  pub total : ℕ

-- the nodes of a stored join tree, with these numbers of rows
abbrev pub shape_view : JoinTree → List ℕ → Shape
shape_view join node_rows = record {
  atoms = take join.count join.atom;
  parents = take join.count join.parent;
  node_rows = node_rows;
}

abbrev pub shape_of : {R : Type 0} → PlanView R → Shape
shape_of plan = shape_view plan.join plan.node_rows

module _ {R : Type 0} (d : ℕ) (key : R → KeyOf d 16) (query : Query) (tables : List Table) where
  -- A solution of the tree has the key of a witness, and each witness has the key of a solution.
  -- Two solutions with the same key are the same rows.
  pub record HasWitnesses (tree : List (NodeView R)) : Type 0 where
    pub witness : (rows : ℕ → ℕ) → IsTreeSolution tree rows
        → (found : List ℕ) × IsWitness query tables found
        × (solution_key tree d key rows ≡ witness_key d query tables found)
    pub solution : (found : List ℕ) → IsWitness query tables found
        → (rows : ℕ → ℕ) × IsTreeSolution tree rows
        × (solution_key tree d key rows ≡ witness_key d query tables found)
    pub once : (t u : ℕ → ℕ) → IsTreeSolution tree t → IsTreeSolution tree u
        → solution_key tree d key t ≡ solution_key tree d key u
        → (q : ℕ) → q < length tree → t q ≡ u q

module _ (bound : BoundQuery) (tables : List Table) {R : Type 0} (tree : List (NodeView R)) where
  -- this row of the item of node v passes
  abbrev pub RowPasses : ℕ → ℕ → Type 0
  RowPasses v row = IsPassing bound.query tables (item tree v) row

  -- below the root, it also agrees with row `above` of the item of the node's parent on the
  -- variables that both items have
  abbrev pub RowsJoined : ℕ → ℕ → ℕ → Type 0
  RowsJoined v above row = RowPasses v row
      × ((v ≡ 0) ⊎ RowsAgree bound tables (item tree v) (item tree (parent tree v)) row above)

  -- the numbers of the rows of node v
  abbrev pub numbers : ℕ → List ℕ
  numbers v = map (λ x. x.row) (node_at tree v).rows

  -- the rows of the nodes and their groups, in terms of the query
  pub record HasReducedRows : Type 0 where
    -- a node has exactly the rows of its item that pass and extend to one row for each node below
    -- it, in ascending order
    pub ascending : (v : ℕ) → v < length tree → IsAscending (λ a b. a < b) (numbers v)
    pub members : (v row : ℕ) → v < length tree
        → IsMember row (numbers v)
        ↔ (RowPasses v row × Extends (length tree) (parent tree) RowsJoined v row)
    -- two rows of a node are in one group exactly if they agree in the variables that its parent's
    -- item has too
    pub groups : (v i j : ℕ) → 0 < v → v < length tree → i < rows tree v → j < rows tree v
        → ShareGroup tree v i j
        ↔ RowsAlike bound tables (item tree v) (item tree (parent tree v)) (number tree v i)
        (number tree v j)
    -- a row names the group that has exactly the rows that agree with it
    pub named : (v r i : ℕ) → 0 < v → v < length tree → r < rows tree (parent tree v)
        → Contains (group tree v r) i
        ↔ ((i < rows tree v)
        × RowsAgree bound tables (item tree v) (item tree (parent tree v)) (number tree v i)
        (number tree (parent tree v) r))

-- a tree of rows for the query over these tables, with the shape of the query: what all its plans
-- have
pub record IsPlanFor {R : Type 0} (d : ℕ) (key : R → KeyOf d 16) (bound : BoundQuery)
    (tables : List Table) (plan : PlanView R) : Type 0 where
  -- the ranks have room for the order keys
  pub keys : length bound.query.order ≤ d
  pub shape : Shape
  pub is_shape : IsShape bound.query tables (Ok shape)
  pub shown : shape ≡ shape_of plan
  pub total : plan.total ≡ total_rows bound.query tables shape
  -- the join tree is stored with parents first, each node an item of the query
  pub count : plan.join.count ≡ length bound.query.items
  pub ordered : IsTree plan.join.count plan.join.atom plan.join.parent
  pub atoms : HasItems plan.join.count plan.join.atom (length bound.query.items)
  -- the tree has one node for each item
  pub nodes : length plan.tree ≡ length bound.query.items
  pub fewer : row_count plan.tree ≤ sum_of_all shape.node_rows
  pub reduced : HasReducedRows bound tables plan.tree
  -- the key of a row has the parts that the row has of the order keys, and the row's number in the
  -- slot of its item
  pub ranks : (v r : ℕ) → v < length plan.tree → r < rows plan.tree v
      → rank plan.tree d key v r
      ≡ row_key d (map (part_of tables bound.query.items (item plan.tree v) (number plan.tree v r))
      bound.query.order) (item plan.tree v) (number plan.tree v r)
  pub witnesses : HasWitnesses d key bound.query tables plan.tree
  pub tie_free : IsTieFreeTree plan.tree
  -- the ranking of the tree is that of the witnesses
  pub ranking : (ks : List (KeyOf d 16)) → IsTreeRanking plan.tree d key ks
      → ks ≡ map (witness_key d bound.query tables) (ranking_of bound.query tables)

-- the plan of the query over these tables: the nodes of its tree are those of the join tree
pub record IsPlan {R : Type 0} (d : ℕ) (key : R → KeyOf d 16) (bound : BoundQuery)
    (tables : List Table) (plan : PlanView R) : Type 0 where
  pub whole : IsPlanFor d key bound tables plan
  pub items : (v : ℕ) → v < length plan.tree → item plan.tree v ≡ slice_index whole.shape.atoms v
  pub parents : (v : ℕ) → v < length plan.tree
      → parent plan.tree v ≡ slice_index whole.shape.parents v

-- the nodes of a tree, by their items and their parents
abbrev pub nodes_in : {R : Type 0} → List (NodeView R) → JoinTree
nodes_in tree = record {
  count = length tree;
  atom = map (λ n. n.shape.item) tree;
  parent = map (λ n. n.shape.parent) tree;
}

-- the plan with the item `at` at the root: the nodes of its tree are those of a join tree that has
-- the same links
pub record IsPlanAt {R : Type 0} (d : ℕ) (key : R → KeyOf d 16) (bound : BoundQuery)
    (tables : List Table) (at : ℕ) (plan : PlanView R) : Type 0 where
  pub whole : IsPlanFor d key bound tables plan
  pub root : item plan.tree 0 ≡ at
  pub joined : IsJoinTreeOf bound.query (nodes_in plan.tree)
  pub same : IsSameTree plan.join.count plan.join.atom plan.join.parent (nodes_in plan.tree).atom
      (nodes_in plan.tree).parent

-- the plan with a given item at the root, or with that of the join tree if none is given
abbrev pub IsPlanOf : {R : Type 0} (d : ℕ) → (R → KeyOf d 16) → BoundQuery → List Table → Option ℕ
    → PlanView R → Type 0
IsPlanOf d key bound tables None plan = IsPlan d key bound tables plan
IsPlanOf d key bound tables (Some at) plan = IsPlanAt d key bound tables at plan
