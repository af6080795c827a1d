use Rattle.node_build.specs.Rows.{HaveRows, lists_of}
use Rattle.node_build.proofs.rows.rows_of_nodes.Given as goal

abbrev pub invariant-loop-node : goal.invariant-loop-node
invariant-loop-node l = HaveRows l.query.query l.tables l.join l.node (lists_of l.rows.items)
