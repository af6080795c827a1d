use Rattle.std.proofs.Common.{◌≡◌, ◌<◌, sym, subst, map, ◌+◌, length, List, Vec, Global, ℕ, arith}
use Rattle.std.proofs.lemmas.Result.{IfOk-from_err}
use Rattle.query_bind.specs.Labels.{least_in}
use Rattle.bound_query.specs.StoredParts.{column_view, items_view, lists_view}
use Rattle.query_bind.specs.Variables.{HavePlacesEach}
use Rattle.bound_query.specs.declared.bound.BoundItem.{BoundItem}
use Rattle.bound_query.proofs.Lists.{all_at}
use Rattle.query_bind.proofs.AllVariables.{each_more, each_none}
use Rattle.query_bind.proofs.variables.places_of_all.Goals as goal

pub loop-i-preserved : goal.loop-i-preserved
loop-i-preserved c =
    let label = least_in c.args.classes.now in
    let items = c.args.items.now in
    subst (λ (l : List (Vec (ℕ × ℕ) Global)). HavePlacesEach label (map column_view c.args.variables.now) c.args.tables.now (items_view items) (c.loop-i.i + 1) (lists_view l))
    (sym c.in_ok-push.ensures.items)
    (each_more label c.args.variables.now c.args.tables.now items c.loop-i.i c.width-width.result c.index-items-i.result c.loop-i.of_items.items c.in_ok-places.places
    c.loop-i-test.true c.width-width.ensures.columns c.loop-i.invariant c.in_ok-places.ensures)

pub width-width-requires : goal.width-width-requires
width-width-requires c = all_at (λ (i : BoundItem). i.table < length c.args.tables.now) c.args.items.now c.loop-i.i c.index-items-i.result c.requires.known c.loop-i-test.true

pub overflow_cast-i : goal.overflow_cast-i
overflow_cast-i c = omega (arith, c.requires.items, c.loop-i-test.true)

pub returns-in_err-places : goal.returns-in_err-places
returns-in_err-places c = IfOk-from_err c.from_residual.result _ c.from_residual.ensures.0

pub returns-in_err-push : goal.returns-in_err-push
returns-in_err-push c = IfOk-from_err c.from_residual-in_err-push.result _ c.from_residual-in_err-push.ensures.0

pub places_of-requires : goal.places_of-requires
places_of-requires c = record { few = c.requires.few }

pub loop-i-init : goal.loop-i-init
loop-i-init c =
    let label = least_in c.args.classes.now in
    let variables = map column_view c.args.variables.now in
    let items = items_view c.args.items.now in
    subst (λ (l : List (Vec (ℕ × ℕ) Global)). HavePlacesEach label variables c.args.tables.now items 0 (lists_view l)) (sym c.new-of_items.ensures.items)
    (each_none label variables c.args.tables.now items)

pub returns : goal.returns
returns c =
    let all : c.loop-i.i ≡ length c.args.items.now = omega (arith, c.loop-i.auto.i-end, c.loop-i-test.false) in
    subst (λ (n : ℕ). HavePlacesEach (least_in c.args.classes.now) (map column_view c.args.variables.now) c.args.tables.now (items_view c.args.items.now) n (lists_view c.loop-i.of_items.items))
    all c.loop-i.invariant
