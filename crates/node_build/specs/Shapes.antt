-- The shapes of the nodes of a join tree.
use Rattle.std.specs.Prelude.{◌≡◌, ◌<◌, ℕ, List, length}
use Rattle.tdp_core.specs.declared.parts.NodeShape.{NodeShape}
use Rattle.tdp_core.specs.RawView.{shape_cap, shape_item, shape_parent}
use Rattle.join_tree.specs.declared.tree.JoinTree.{JoinTree}
use Rattle.anyk_model.specs.Table.{Table}
use Rattle.bound_query.specs.WeighedQuery.{BoundQuery}
use Rattle.node_build.specs.Nodes.{cap_at, item_of, parent_of}

-- the shapes of the first n nodes
pub record AreShapesOf (bound : BoundQuery) (tables : List Table) (join : JoinTree) (n : ℕ)
    (shapes : List NodeShape) : Type 0 where
  pub count : length shapes ≡ n
  pub parents : (v : ℕ) → v < n → shape_parent shapes v ≡ parent_of join v
  pub items : (v : ℕ) → v < n → shape_item shapes v ≡ item_of join v
  pub caps : (v i : ℕ) → v < n → shape_cap shapes v i ≡ cap_at bound tables (item_of join v) i
