use Rattle.std.proofs.Common.{◌≡◌, ◌<◌, sym, subst, map, ◌+◌, length, List, ℕ, arith}
use Rattle.std.proofs.lemmas.Result.{IfOk-from_err}
use Rattle.query_bind.specs.Filters.{HaveFilters}
use Rattle.bound_query.specs.FilterViews.{filter_view}
use Rattle.query_bind.specs.Labels.{least_in}
use Rattle.bound_query.specs.StoredParts.{equality_view, items_view}
use Rattle.bound_query.specs.declared.filters.Filter.{Filter}
use Rattle.bound_query.specs.declared.bound.BoundItem.{BoundItem}
use Rattle.bound_query.proofs.Lists.{all_at}
use Rattle.query_bind.proofs.AllFilters.{filters_more, filters_none}
use Rattle.query_bind.proofs.filters.filters_of.Goals as goal

pub loop-i-preserved : goal.loop-i-preserved
loop-i-preserved c =
    let label = least_in c.args.classes.now in
    let es = map equality_view c.args.equalities.now in
    let items = c.args.items.now in
    subst (λ (l : List Filter). HaveFilters label es c.args.tables.now (items_view items) (c.loop-i.i + 1) (map filter_view l)) (sym c.in_ok-push.ensures.items)
    (filters_more label es c.args.tables.now items c.loop-i.i c.width-width.result c.index-items-i.result c.loop-i.filters.items c.in_ok-filter.filter
    c.loop-i-test.true c.width-width.ensures.columns c.loop-i.invariant c.in_ok-filter.ensures.0 c.in_ok-filter.ensures.1)

pub returns-in_err-filter : goal.returns-in_err-filter
returns-in_err-filter c = IfOk-from_err c.from_residual.result _ c.from_residual.ensures.0

pub returns-in_err-push : goal.returns-in_err-push
returns-in_err-push c = IfOk-from_err c.from_residual-in_err-push.result _ c.from_residual-in_err-push.ensures.0

pub width-width-requires : goal.width-width-requires
width-width-requires c = all_at (λ (i : BoundItem). i.table < length c.args.tables.now) c.args.items.now c.loop-i.i c.index-items-i.result c.requires.known c.loop-i-test.true

pub overflow_cast-i : goal.overflow_cast-i
overflow_cast-i c = omega (arith, c.requires.items, c.loop-i-test.true)

pub returns : goal.returns
returns c =
    let all : c.loop-i.i ≡ length c.args.items.now = omega (arith, c.loop-i.auto.i-end, c.loop-i-test.false) in
    subst (λ (n : ℕ). HaveFilters (least_in c.args.classes.now) (map equality_view c.args.equalities.now) c.args.tables.now (items_view c.args.items.now) n (map filter_view c.loop-i.filters.items))
    all c.loop-i.invariant

pub loop-i-init : goal.loop-i-init
loop-i-init c =
    let label = least_in c.args.classes.now in
    let es = map equality_view c.args.equalities.now in
    let items = items_view c.args.items.now in
    subst (λ (l : List Filter). HaveFilters label es c.args.tables.now items 0 (map filter_view l)) (sym c.new-filters.ensures.items)
    (filters_none label es c.args.tables.now items)
