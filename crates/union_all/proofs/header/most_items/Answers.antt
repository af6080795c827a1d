use Rattle.std.proofs.Common.{◌∙◌, ℕ, max, ap, arith}
use Rattle.union_all.proofs.Texts.{most_next}
use Rattle.union_all.proofs.header.most_items.Goals as goal

pub loop-query-preserved : goal.loop-query-preserved
loop-query-preserved c =
    let q = c.query-item.result in
    let most = c.loop-query.most in
    let is = c.max-most.ensures in
    let few = c.items.ensures.limit in
    let was = c.loop-query.invariant.1 in
    (is ∙ ap (λ (n : ℕ). max n most) c.items.ensures.items ∙ most_next c.args.queries.now c.loop-query.query-index q most c.loop-query-test.true c.query-item.is c.loop-query.invariant.0, omega (arith, is, few, was))
