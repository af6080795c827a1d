use Rattle.std.proofs.Common.{take}
use Rattle.rankings.specs.Order.{IsMember}
use Rattle.node_build.specs.Columns.{AreShared}
use Rattle.node_build.proofs.columns.shared_columns.Given as goal

abbrev pub invariant-loop-variable : goal.invariant-loop-variable
invariant-loop-variable l =
    AreShared l.query l.item l.other (λ v. IsMember v (take l.variable-index l.variable-items)) l.columns.items l.other_columns.items
