use Rattle.std.proofs.Common.{◌≡◌, ◌<◌, ℕ, subst, arith}
use Rattle.node_build.specs.Columns.{HaveColumns}
use Rattle.node_build.specs.Nodes.{parent_of}
use Rattle.node_build.specs.Rows.{lists_of}
use Rattle.node_build.proofs.Collected.{columns_push, root_columns}
use Rattle.node_build.proofs.Shaped.{item_known, parent_earlier}
use Rattle.node_build.proofs.columns.columns_of.Goals as goal

pub loop-node-init : goal.loop-node-init
loop-node-init c =
    root_columns c.args.query.now c.args.join.now c.new-own.result.items c.push.new.self.items c.new-above.result.items c.push-2.new.self.items c.new.result c.new-2.result
    c.new-own.ensures.items c.new-above.ensures.items c.new.ensures.items c.new-2.ensures.items c.in_ok-push.ensures.items c.in_ok-push-2.ensures.items

pub bounds-join-node : goal.bounds-join-node
bounds-join-node c = omega arith

pub bounds-join-node-in-loop-node : goal.bounds-join-node-in-loop-node
bounds-join-node-in-loop-node c = omega arith

pub bounds-join-join : goal.bounds-join-join
bounds-join-join c =
    let join = c.args.join.now in
    let up = parent_earlier c.args.query.now.query join c.requires.tree c.loop-node.node (omega arith) c.loop-node-test.true in
    omega (arith, up)

pub shared_columns-requires-clause-fits : goal.shared_columns-requires-clause-fits
shared_columns-requires-clause-fits c = c.requires.fits

pub shared_columns-requires-clause-item : goal.shared_columns-requires-clause-item
shared_columns-requires-clause-item c = item_known c.args.query.now.query c.args.join.now c.requires.tree c.loop-node.node c.loop-node-test.true

pub shared_columns-requires-clause-other : goal.shared_columns-requires-clause-other
shared_columns-requires-clause-other c =
    let query = c.args.query.now.query in
    let join = c.args.join.now in
    let node = c.loop-node.node in
    let l : node < join.count = omega arith in
    let up = parent_earlier query join c.requires.tree node (omega arith) l in
    item_known query join c.requires.tree (parent_of join node) (omega (arith, up, l))

pub loop-node-preserved : goal.loop-node-preserved
loop-node-preserved c =
    columns_push c.args.query.now c.args.join.now c.loop-node.node c.loop-node.own.items c.push-in-loop-node.new.self.items c.loop-node.above.items c.push-in-loop-node-2.new.self.items
    c.in_ok-columns.columns c.in_ok-columns.other_columns (omega arith) c.in_ok-push-3.ensures.items c.in_ok-push-4.ensures.items c.loop-node.invariant c.in_ok-columns.ensures

pub returns : goal.returns
returns c =
    let all : c.loop-node.node ≡ c.args.join.now.count = omega arith in
    subst (λ (n : ℕ). HaveColumns c.args.query.now c.args.join.now n (lists_of c.loop-node.own.items) (lists_of c.loop-node.above.items)) all c.loop-node.invariant
