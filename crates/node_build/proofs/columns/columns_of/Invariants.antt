use Rattle.node_build.specs.Columns.{HaveColumns}
use Rattle.node_build.specs.Rows.{lists_of}
use Rattle.node_build.proofs.columns.columns_of.Given as goal

abbrev pub invariant-loop-node : goal.invariant-loop-node
invariant-loop-node l = HaveColumns l.query l.join l.node (lists_of l.own.items) (lists_of l.above.items)
