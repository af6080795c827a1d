use Rattle.std.proofs.Common.{◌≡◌, ℕ, ap, subst, arith}
use Rattle.node_build.specs.Rows.{HaveRows, lists_of}
use Rattle.node_build.proofs.Collected.{no_rows, rows_push}
use Rattle.node_build.proofs.Shaped.{item_known}
use Rattle.node_build.proofs.rows.rows_of_nodes.Goals as goal

pub loop-node-init : goal.loop-node-init
loop-node-init c = no_rows c.args.query.now.query c.args.tables.now c.args.join.now (lists_of c.new-rows.result.items) (ap lists_of c.new-rows.ensures.items)

pub passing_rows-requires-clause-item : goal.passing_rows-requires-clause-item
passing_rows-requires-clause-item c = item_known c.args.query.now.query c.args.join.now c.requires.tree c.loop-node.node c.loop-node-test.true

pub loop-node-preserved : goal.loop-node-preserved
loop-node-preserved c =
    rows_push c.args.query.now.query c.args.tables.now c.args.join.now c.loop-node.node c.loop-node.rows.items c.push.new.self.items c.in_ok-list.list c.in_ok-push.ensures.items
    c.loop-node.invariant c.in_ok-list.ensures.rows c.in_ok-list.ensures.few c.in_ok-list.ensures.limit

pub returns : goal.returns
returns c =
    let all : c.loop-node.node ≡ c.args.join.now.count = omega arith in
    record { rows = subst (λ (n : ℕ). HaveRows c.args.query.now.query c.args.tables.now c.args.join.now n (lists_of c.loop-node.rows.items)) all c.loop-node.invariant }
