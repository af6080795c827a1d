use Rattle.std.proofs.Common.{◌≡◌}
use Rattle.tdp_core.specs.RawView.{shape_parent}
use Rattle.tdp_core.specs.TreeView.{kids_below}
use Rattle.proof_check.proofs.subtree.child_place.Given as goal

abbrev pub invariant-loop-other : goal.invariant-loop-other
invariant-loop-other g l = l.place ≡ kids_below (shape_parent l.raw.shapes) (shape_parent l.raw.shapes l.node) l.other
