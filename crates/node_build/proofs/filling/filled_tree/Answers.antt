use Rattle.std.proofs.Common.{◌≡◌, ◌∙◌, List, length, refl, sym, ap, subst, arith}
use Rattle.std.proofs.lemmas.Result.{IfOk-from_err}
use Rattle.tdp_core.specs.declared.parts.NodeShape.{NodeShape}
use Rattle.tdp_core.specs.RawView.{AreShapes, AreShapesHeld}
use Rattle.node_build.specs.Rows.{lists_of}
use Rattle.node_build.proofs.Begun.{lists_count, no_rows_yet, shapes_kept}
use Rattle.node_build.proofs.Handed.{handed}
use Rattle.node_build.proofs.Held.{shapes_held}
use Rattle.node_build.proofs.Shaped.{shapes_are}
use Rattle.node_build.proofs.filling.filled_tree.Goals as goal

pub with_keys-requires-clause-shapes : goal.with_keys-requires-clause-shapes
with_keys-requires-clause-shapes g c =
    subst AreShapes (sym c.as_slice.ensures.value)
    (shapes_are c.args.query.now c.args.tables.now c.requires.ready.fits c.args.join.now c.in_ok-shapes.shapes.items c.requires.ready.tree (c.in_ok-shapes.ensures c.args.tables.now c.requires.ready.fits))

pub with_keys-requires-clause-held : goal.with_keys-requires-clause-held
with_keys-requires-clause-held g c =
    subst (AreShapesHeld g.R.Rank.KEYS g.R.Rank.key) (sym c.as_slice.ensures.value)
    (shapes_held c.args.query.now c.args.tables.now c.args.join.now c.requires.ready.tree c.in_ok-shapes.shapes.items (c.in_ok-shapes.ensures c.args.tables.now c.requires.ready.fits)
    g.R.Rank.KEYS g.R.Rank.key g.R.Rank.ITEMS g.R.Rank.LIMIT g.R.Rank.ROWS g.met.R.Rank.holds g.met.R.Rank.below_rows g.met.R.Rank.rows_fit (omega (arith, g.met.R.Rank.rows_held)) c.requires.ready.slots c.requires.ready.limit)

pub add_nodes-added-requires-clause-links : goal.add_nodes-added-requires-clause-links
add_nodes-added-requires-clause-links g c = lists_count c.in_ok-links.links c.args.join.now.count c.in_ok-links.ensures

pub add_nodes-added-requires-clause-shapes : goal.add_nodes-added-requires-clause-shapes
add_nodes-added-requires-clause-shapes g c =
    shapes_kept c.args.query.now c.args.tables.now c.args.join.now c.in_ok-shapes.shapes.items c.as_slice.result.now c.in_ok-tree.tree c.in_ok-tree.tree
    (c.in_ok-shapes.ensures c.args.tables.now c.requires.ready.fits) c.as_slice.ensures.value c.in_ok-tree.ensures refl

pub add_nodes-added-requires-clause-none : goal.add_nodes-added-requires-clause-none
add_nodes-added-requires-clause-none g c =
    let join = c.args.join.now in
    let own = lists_of c.in_ok-columns.columns.own.items in
    let above = lists_of c.in_ok-columns.columns.above.items in
    let of_join = c.in_ok-shapes.ensures c.args.tables.now c.requires.ready.fits in
    let count : length c.as_slice.result.now ≡ join.count = ap (λ (xs : List NodeShape). length xs) c.as_slice.ensures.value ∙ of_join.count in
    no_rows_yet c.args.query.now c.args.tables.now join own above g.R.Rank.KEYS g.R.Rank.key c.in_ok-links.links (lists_of c.args.rows.now) c.as_slice.result.now c.in_ok-tree.tree count c.in_ok-tree.ensures

pub returns : goal.returns
returns g c =
    let r = c.add_nodes-added.result in
    let tree = c.add_nodes-added.new.tree in
    let made = c.add_nodes-added.ensures in
    record {
      shapes = handed c.and.result r tree _ c.and.ensures made.shapes;
      filled = handed c.and.result r tree _ c.and.ensures made.filled;
      cost = made.cost;
    }

pub returns-in_err-shapes : goal.returns-in_err-shapes
returns-in_err-shapes g c =
    let r = c.from_residual.result in
    let e = c.from_residual.ensures.0 in
    record { shapes = IfOk-from_err r _ e; filled = IfOk-from_err r _ e; cost = omega arith }

pub returns-in_err-tree : goal.returns-in_err-tree
returns-in_err-tree g c =
    let r = c.from_residual-in_err-tree.result in
    let e = c.from_residual-in_err-tree.ensures.0 in
    record { shapes = IfOk-from_err r _ e; filled = IfOk-from_err r _ e; cost = omega arith }

pub returns-in_err-columns : goal.returns-in_err-columns
returns-in_err-columns g c =
    let r = c.from_residual-in_err-columns.result in
    let e = c.from_residual-in_err-columns.ensures.0 in
    record { shapes = IfOk-from_err r _ e; filled = IfOk-from_err r _ e; cost = omega arith }

pub returns-in_err-links : goal.returns-in_err-links
returns-in_err-links g c =
    let r = c.from_residual-in_err-links.result in
    let e = c.from_residual-in_err-links.ensures.0 in
    record { shapes = IfOk-from_err r _ e; filled = IfOk-from_err r _ e; cost = omega arith }

pub add_nodes-added-requires-clause-rows : goal.add_nodes-added-requires-clause-rows
add_nodes-added-requires-clause-rows g c = c.requires.rows

pub add_nodes-added-requires-clause-room : goal.add_nodes-added-requires-clause-room
add_nodes-added-requires-clause-room g c = c.requires.room

pub add_nodes-added-requires-clause-ready : goal.add_nodes-added-requires-clause-ready
add_nodes-added-requires-clause-ready g c = c.requires.ready

pub add_nodes-added-requires-clause-columns : goal.add_nodes-added-requires-clause-columns
add_nodes-added-requires-clause-columns g c = c.in_ok-columns.ensures
