use Rattle.tdp_core.proofs.WideTrees.{wide_shapes_held}
use Rattle.plan_build.proofs.wide.wide_tree.Goals as goal

pub new-requires : goal.new-requires
new-requires g c = record { shapes = c.requires; held = wide_shapes_held g.row.N c.args.shapes.now c.requires }
