use Rattle.std.proofs.Common.{◌≤◌, length, arith, map, ◌∷◌, []}
use Rattle.std.proofs.lemmas.List.{map-append}
use Rattle.std.proofs.lemmas.Result.{err_from_is_err_and}
use Rattle.bound_query.specs.StoredParts.{items_view}
use Rattle.query_bind.proofs.Collect.{all_bound, all_sound, bound_more, tells_fault}
use Rattle.query_bind.proofs.binding.bind_all.Goals as goal

pub returns-in_err-bound : goal.returns-in_err-bound
returns-in_err-bound g c =
    let p = err_from_is_err_and c.from_residual.result c.from_residual.ensures.1 in
    let tables = c.args.tables.now in
    let items = items_view c.args.items.now in
    rw (p.1, p.2) (tells_fault (g.T.Binds.meaning tables items) (g.T.Binds.first_fault tables items) c.args.parts.now c.loop-part.part-index c.part-item.result
    (map g.T.Binds.view c.loop-part.all.items) c.in_err-bound.field-0.0 c.loop-part-test.true c.part-item.is c.loop-part.invariant c.in_err-bound.ensures)

pub loop-part-preserved : goal.loop-part-preserved
loop-part-preserved g c =
    let tables = c.args.tables.now in
    let items = items_view c.args.items.now in
    rw (c.in_ok-push.ensures.items, map-append g.T.Binds.view c.loop-part.all.items (c.in_ok-bound.bound ∷ [])) (
    bound_more (g.T.Binds.meaning tables items) (g.T.Binds.first_fault tables items) c.args.parts.now c.loop-part.part-index c.part-item.result
    (map g.T.Binds.view c.loop-part.all.items) (g.T.Binds.view c.in_ok-bound.bound) c.loop-part-test.true c.part-item.is c.loop-part.invariant c.in_ok-bound.ensures.0 c.in_ok-bound.ensures.1)

pub returns : goal.returns
returns g c =
    let tables = c.args.tables.now in
    let items = items_view c.args.items.now in
    let past : length c.args.parts.now ≤ c.loop-part.part-index = omega arith in (
      all_bound (g.T.Binds.meaning tables items) (g.T.Binds.first_fault tables items) c.args.parts.now c.loop-part.part-index (map g.T.Binds.view c.loop-part.all.items) past c.loop-part.invariant,
      all_sound (g.T.Binds.meaning tables items) (g.T.Binds.first_fault tables items) c.args.parts.now c.loop-part.part-index (map g.T.Binds.view c.loop-part.all.items) past c.loop-part.invariant,
    )
