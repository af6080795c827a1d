use Rattle.std.proofs.Common.{List}
use Rattle.anyk_model.specs.Table.{Table}
use Rattle.bound_query.specs.WeighedQuery.{Fits}
use Rattle.node_build.specs.Shapes.{AreShapesOf}
use Rattle.node_build.proofs.shapes.shapes_of.Given as goal

abbrev pub invariant-loop-node : goal.invariant-loop-node
invariant-loop-node l = (tables : List Table) → Fits l.query tables → AreShapesOf l.query tables l.join l.node l.shapes.items
