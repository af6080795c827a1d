use Rattle.std.proofs.Common.{◌≡◌, ◌∙◌, false, true, sym, rules, arith}
use Rattle.std.proofs.lemmas.List.{length-map}
use Rattle.verdict.specs.AcceptedInput.{queries_in}
use Rattle.command_input.proofs.FirstUses.{mapped_at, mapped_inside}
use Rattle.command_input.proofs.Shapes.{odd_begins, shape_kept, shape_odd, shapes_same}
use Rattle.command_input.proofs.binding.odd_branch.Goals as goal

pub loop-branch-init : goal.loop-branch-init
loop-branch-init c = odd_begins (queries_in c.args.queries.now)

pub returns-then-not-have_one_shape : goal.returns-then-not-have_one_shape
returns-then-not-have_one_shape c =
    let queries = c.args.queries.now in
    let b = c.loop-branch.branch in
    let inside = c.loop-branch-test.true in
    let some = c.requires.some in
    let no : c.have_one_shape.result ≡ false = search rules in
    shape_odd (queries_in queries) b _ _ (mapped_inside (λ q. q.query) queries b inside) (mapped_at (λ q. q.query) queries 0 c.index-queries-0.result (omega (arith, some)) c.index-queries-0.is)
    (mapped_at (λ q. q.query) queries b c.index-queries-branch.result inside c.index-queries-branch.is) (sym c.have_one_shape.ensures ∙ no) c.loop-branch.invariant

pub loop-branch-preserved : goal.loop-branch-preserved
loop-branch-preserved c =
    let queries = c.args.queries.now in
    let b = c.loop-branch.branch in
    let inside = c.loop-branch-test.true in
    let some = c.requires.some in
    let yes : c.have_one_shape.result ≡ true = search rules in
    shape_kept (queries_in queries) b _ _ (mapped_inside (λ q. q.query) queries b inside) (mapped_at (λ q. q.query) queries 0 c.index-queries-0.result (omega (arith, some)) c.index-queries-0.is)
    (mapped_at (λ q. q.query) queries b c.index-queries-branch.result inside c.index-queries-branch.is) (sym c.have_one_shape.ensures ∙ yes) c.loop-branch.invariant

pub returns : goal.returns
returns c =
    let queries = c.args.queries.now in
    let longer = length-map queries (λ q. q.query) in
    shapes_same (queries_in queries) c.loop-branch.branch (omega (arith, longer, c.loop-branch-test.false)) c.loop-branch.invariant
