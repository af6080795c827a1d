use Rattle.std.proofs.Common.{◌≡◌, suc, ◌-◌}
use Rattle.semi_join.proofs.FirstOnes.{children_among}
use Rattle.tdp_core.specs.RawView.{shape_parent}
use Rattle.semi_join.proofs.node.children_of.Given as goal

abbrev pub invariant-loop-later : goal.invariant-loop-later
invariant-loop-later g l = l.children.items ≡ children_among (shape_parent l.raw.shapes) l.node (l.later - suc l.node)
