-- What the steps of making a plan ask for, and what they hand on.
use Rattle.std.specs.Prelude.{◌≡◌, ◌<◌, ◌≤◌, ℕ, List, length, map}
use Rattle.tdp_model.specs.KeyTuple.{KeyOf}
use Rattle.tdp_model.specs.NodeRows.{most_node_rows}
use Rattle.tdp_core.specs.RawView.{IsRawFormed, RawView, row_total}
use Rattle.tdp_core.specs.Solutions.{IsTieFreeRaw}
use Rattle.tdp_core.specs.TreeView.{item, parent}
use Rattle.anyk_model.specs.Table.{Table}
use Rattle.anyk_model.specs.Query.{Query, row_counts}
use Rattle.bound_query.specs.KeyParts.{sum_of_all}
use Rattle.bound_query.specs.WeighedQuery.{BoundQuery, Fits}
use Rattle.join_tree.specs.Rerooting.{IsTree}
use Rattle.join_tree.specs.declared.tree.JoinTree.{JoinTree}
use Rattle.bound_query.specs.JoinTreeView.{HasItems, HasStoredTree}
use Rattle.node_build.specs.Nodes.{CapsBelow, IsBuilt, IsJoinTreeOf, item_of, parent_of}
use Rattle.plan_build.specs.Plan.{IsPlanFor, PlanView}

-- the query fits its tables, and ranks of so many sums and slots, with sums below `most`, have room
-- for it
pub record FitsRanks (sums slots most : ℕ) (bound : BoundQuery)
    (tables : List Table) : Type 0 where
  pub fits : Fits bound tables
  pub keys : length bound.query.order ≤ sums
  pub items : length bound.query.items ≤ slots
  pub limit : CapsBelow most bound tables

-- the join tree that ear removal gives, stored with parents first
pub record IsStored (query : Query) (join : JoinTree) : Type 0 where
  pub stored : HasStoredTree query join
  pub ordered : IsTree join.count join.atom join.parent
  pub atoms : HasItems join.count join.atom (length query.items)
  pub count : join.count ≡ length query.items
  pub joined : IsJoinTreeOf query join

module _ {R : Type 0} (d : ℕ) (key : R → KeyOf d 16) (bound : BoundQuery) (tables : List Table) where
  -- the nodes of a join tree before the reduction, the numbers of their rows, and of all together
  pub record AreNodes (join : JoinTree) (raw : RawView R) (rows_of : List ℕ)
      (used : ℕ) : Type 0 where
    pub built : IsBuilt bound tables d key join raw
    pub formed : IsRawFormed d key raw
    pub tie_free : IsTieFreeRaw raw
    pub counts : rows_of ≡ map length raw.rows
    pub all : used ≡ row_total raw
    pub within : used ≤ most_node_rows
    pub fewer : used ≤ sum_of_all (row_counts bound.query.items tables)

  -- a plan that keeps the join tree `join`, and whose tree has the nodes of `over`
  pub record IsPlanOver (join over : JoinTree) (plan : PlanView R) : Type 0 where
    pub whole : IsPlanFor d key bound tables plan
    pub kept : plan.join ≡ join
    pub items : (v : ℕ) → v < length plan.tree → item plan.tree v ≡ item_of over v
    pub parents : (v : ℕ) → v < length plan.tree → parent plan.tree v ≡ parent_of over v
