use Rattle.std.proofs.Common.{◌∙◌, sym, ap}
use Rattle.bound_query.specs.StoredParts.{column_view, equality_view}
use Rattle.bound_query.specs.declared.bound.BoundEquality.{BoundEquality}
use Rattle.query_bind.specs.Labels.{least_in}
use Rattle.query_bind.specs.Variables.{is_fixing}
use Rattle.rankings.proofs.Searching.{any_end, any_hit, any_miss}
use Rattle.query_bind.proofs.variables.has_constant.Goals as goal

pub returns-then-fixes : goal.returns-then-fixes
returns-then-fixes c =
    let test = λ (e : BoundEquality). is_fixing (least_in c.args.classes.now) (column_view c.args.least) (equality_view e) in
    any_hit test c.args.equalities.now c.loop-equality.equality-index c.loop-equality.invariant c.equality-item.result c.loop-equality-test.true
    (ap test (sym c.equality-item.is) ∙ sym c.fixes.ensures ∙ c.if-fixes.true)

pub loop-equality-preserved : goal.loop-equality-preserved
loop-equality-preserved c =
    let test = λ (e : BoundEquality). is_fixing (least_in c.args.classes.now) (column_view c.args.least) (equality_view e) in
    any_miss test c.args.equalities.now c.loop-equality.equality-index c.loop-equality.invariant c.equality-item.result c.loop-equality-test.true
    (ap test (sym c.equality-item.is) ∙ sym c.fixes.ensures ∙ c.if-fixes.false)

pub returns : goal.returns
returns c =
    any_end (λ (e : BoundEquality). is_fixing (least_in c.args.classes.now) (column_view c.args.least) (equality_view e)) c.args.equalities.now
    c.loop-equality.equality-index c.loop-equality.invariant c.loop-equality-test.false
