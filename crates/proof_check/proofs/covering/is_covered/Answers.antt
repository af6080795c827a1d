use Rattle.std.proofs.Common.{◌<◌, subst, sym, arith}
use Rattle.proof_model.specs.QueryProblem.{problem_in}
use Rattle.proof_check.proofs.Coverings.{covered_free, covered_none, covered_some}
use Rattle.proof_check.proofs.Nodes.{nodes_few}
use Rattle.proof_check.proofs.covering.is_covered.Goals as goal

pub low_bound-requires-clause-ordered : goal.low_bound-requires-clause-ordered
low_bound-requires-clause-ordered g c = c.requires.ordered

pub low_bound-requires-clause-node : goal.low_bound-requires-clause-node
low_bound-requires-clause-node g c =
    let b = c.requires.bounded in
    omega (arith, c.requires.node, b.bounded.rows.nodes, nodes_few b.query b.tables c.args.join.now)

pub own_rank-requires-clause-node : goal.own_rank-requires-clause-node
own_rank-requires-clause-node g c =
    let b = c.requires.bounded in
    omega (arith, b.bounded.each_node, b.bounded.rows.nodes, c.requires.node)

pub own_rank-requires-clause-row : goal.own_rank-requires-clause-row
own_rank-requires-clause-row g c =
    let b = c.requires.bounded in
    let node : c.args.node < (problem_in b.query b.tables c.args.join.now).nodes =
    omega (arith, c.requires.node, b.bounded.rows.nodes) in
    subst (λ n. c.args.row < n) (sym (b.bounded.own_length c.args.node node)) c.requires.row

pub own_rank-requires-clause-each : goal.own_rank-requires-clause-each
own_rank-requires-clause-each g c number own =
    let b = c.requires.bounded in
    let node : c.args.node < (problem_in b.query b.tables c.args.join.now).nodes =
    omega (arith, c.requires.node, b.bounded.rows.nodes) in
    (b.bounded.own_is c.args.node c.args.row number node c.requires.row own).0

pub returns-in-None : goal.returns-in-None
returns-in-None g c query tables cert few bounded =
    let node : c.args.node < (problem_in query tables c.args.join.now).nodes =
    omega (arith, c.requires.node, bounded.rows.nodes) in
    covered_free query tables c.args.join.now g.R.Rank.KEYS g.R.Rank.key cert c.args.tree.now few bounded c.args.node
    c.args.row node c.requires.row (c.in-None.ensures query tables cert few bounded)

pub returns-in-None-own_rank : goal.returns-in-None-own_rank
returns-in-None-own_rank g c query tables cert few bounded =
    let node : c.args.node < (problem_in query tables c.args.join.now).nodes =
    omega (arith, c.requires.node, bounded.rows.nodes) in
    covered_none query tables c.args.join.now g.R.Rank.KEYS g.R.Rank.key cert c.args.tree.now few bounded c.args.node
    c.args.row node c.requires.row c.in-Some.low (c.in-Some.ensures query tables cert few bounded)
    c.in-None-own_rank.ensures

pub returns-in-Some-own_rank : goal.returns-in-Some-own_rank
returns-in-Some-own_rank g c query tables cert few bounded =
    let node : c.args.node < (problem_in query tables c.args.join.now).nodes =
    omega (arith, c.requires.node, bounded.rows.nodes) in
    covered_some query tables c.args.join.now g.R.Rank.KEYS g.R.Rank.key cert c.args.tree.now few bounded c.args.node
    c.args.row node c.requires.row c.in-Some.low c.in-Some-own_rank.own
    (c.in-Some.ensures query tables cert few bounded)
    c.in-Some-own_rank.ensures c.less.result c.less.ensures.order
