use Rattle.std.proofs.Common.{◌≡◌}
use Rattle.std.specs.List.{flat_map, range_with_len}
use Rattle.plan_build.specs.Plan.{shape_of}
use Rattle.bound_query.specs.Report.{node_line}
use Rattle.plan_build.proofs.reporting.report.Given as goal

abbrev pub invariant-loop-node : goal.invariant-loop-node
invariant-loop-node g l = l.text.items ≡ flat_map (node_line l.query.query (shape_of l.plan)) (range_with_len 0 l.node)
