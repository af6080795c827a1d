use Rattle.std.proofs.Common.{◌≡◌, ◌∙◌, ◌++◌, ℕ, List, ap, sym, subst, length, codes, decimal, arith}
use Rattle.std.specs.List.{flat_map, range_with_len}
use Rattle.bound_query.specs.Shape.{Shape}
use Rattle.plan_build.specs.Plan.{shape_of, shape_view}
use Rattle.bound_query.specs.Report.{node_line, total_line, total_rows}
use Rattle.plan_build.proofs.Lines.{atoms_same, count_same, lines_more, nodes_counted, ordered_same, rows_counted, rows_same, shape_same, total_same}
use Rattle.plan_build.proofs.reporting.report.Goals as goal

pub push_node-requires-clause-ordered : goal.push_node-requires-clause-ordered
push_node-requires-clause-ordered g c = ordered_same _ _ c.plan.view_is c.requires.plan.ordered

pub push_node-requires-clause-items : goal.push_node-requires-clause-items
push_node-requires-clause-items g c = atoms_same _ _ c.plan.view_is (length c.args.query.now.query.items) c.requires.plan.atoms

pub push_node-requires-clause-counted : goal.push_node-requires-clause-counted
push_node-requires-clause-counted g c =
    ap length c.deref.ensures.value ∙ rows_same _ _ c.plan.view_is
    ∙ rows_counted g.R.Rank.KEYS g.R.Rank.key c.args.query.now c.args.tables.now c.args.plan.now c.requires.plan ∙ sym (count_same _ _ c.plan.view_is)

pub loop-node-preserved : goal.loop-node-preserved
loop-node-preserved g c =
    let query = c.args.query.now.query in
    let same : shape_view c.plan.inside.join c.deref.result.now ≡ shape_of c.args.plan.now =
    ap (λ (rows : List ℕ). shape_view c.plan.inside.join rows) c.deref.ensures.value ∙ shape_same _ _ c.plan.view_is in
    let one = subst (λ (s : Shape). c.push_node.new.text.items ≡ c.loop-node.text.items ++ node_line query s c.loop-node.node) same c.in_ok-push_node.ensures in
    lines_more (node_line query (shape_of c.args.plan.now)) c.loop-node.node _ _ c.loop-node.invariant one

pub returns : goal.returns
returns g c =
    let query = c.args.query.now.query in
    let tables = c.args.tables.now in
    let plan = c.args.plan.now in
    let is = c.requires.plan in
    let nodes = nodes_counted g.R.Rank.KEYS g.R.Rank.key c.args.query.now tables plan is in
    let count = count_same _ _ c.plan.view_is in
    let all : c.loop-node.node ≡ length (shape_of plan).atoms = omega (arith, nodes, count) in
    let total : c.plan.inside.total ≡ total_rows query tables (shape_of plan) = total_same _ _ c.plan.view_is ∙ is.total ∙ ap (total_rows query tables) is.shown in
    c.in_ok-push_total.ensures
    ∙ ap (λ (n : ℕ). c.loop-node.text.items ++ (codes "total " ++ (decimal n ++ codes "\n"))) total
    ∙ ap (λ (l : List ℕ). l ++ total_line query tables (shape_of plan))
    (c.loop-node.invariant ∙ ap (λ (n : ℕ). flat_map (node_line query (shape_of plan)) (range_with_len 0 n)) all)
