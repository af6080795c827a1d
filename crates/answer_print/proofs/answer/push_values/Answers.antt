use Rattle.std.proofs.Common.{◌≡◌, ◌-◌, ◌++◌, ℕ, List, get_or, length, map, take, ap, ◌∙◌, sym, subst, arith}
use Rattle.anyk_model.specs.Table.{field_at, table_at}
use Rattle.anyk_model.specs.Query.{Column, value_of}
use Rattle.bound_query.specs.Items.{item_at}
use Rattle.bound_query.specs.StoredParts.{column_view}
use Rattle.answer_print.specs.WrittenRecords.{HasFields}
use Rattle.answer_print.proofs.Places.{all_columns, column_there, row_there}
use Rattle.answer_print.proofs.Pushing.{element_more}
use Rattle.answer_print.proofs.answer.push_values.Goals as goal

pub table_of-table-requires : goal.table_of-table-requires
table_of-table-requires c =
    (column_there c.args.query.now.query c.args.tables.now c.columns-item-items.result.now c.loop-item.item-index (0, 0) c.requires.fits.within c.columns-item-items.ensures c.loop-item-test.true).item

pub bounds-rows-item : goal.bounds-rows-item
bounds-rows-item c =
    let there = column_there c.args.query.now.query c.args.tables.now c.columns-item-items.result.now c.loop-item.item-index (0, 0) c.requires.fits.within c.columns-item-items.ensures c.loop-item-test.true in
    let row = row_there c.args.tables.now c.args.query.now.query.items c.args.rows.now (get_or c.columns-item-items.result.now c.loop-item.item-index (0, 0)).0 c.requires.rows there.item in
    omega (arith, row.place)

pub push_value-requires : goal.push_value-requires
push_value-requires c =
    let there = column_there c.args.query.now.query c.args.tables.now c.columns-item-items.result.now c.loop-item.item-index (0, 0) c.requires.fits.within c.columns-item-items.ensures c.loop-item-test.true in
    let row = row_there c.args.tables.now c.args.query.now.query.items c.args.rows.now (get_or c.columns-item-items.result.now c.loop-item.item-index (0, 0)).0 c.requires.rows there.item in
    rw c.table_of-table.ensures (record { table = there.table; first = row.first; row = row.last; column = there.column })

pub loop-item-preserved : goal.loop-item-preserved
loop-item-preserved c = λ fields has.
    let query = c.args.query.now.query in
    let tables = c.args.tables.now in
    let there = column_there query tables c.columns-item-items.result.now c.loop-item.item-index (0, 0) c.requires.fits.within c.columns-item-items.ensures c.loop-item-test.true in
    let column = get_or c.columns-item-items.result.now c.loop-item.item-index (0, 0) in
    let row = row_there tables query.items c.args.rows.now column.0 c.requires.rows there.item in
    let chosen = take (length query.items) c.args.rows.now in
    let read : field_at (table_at tables c.table_of-table.result) (get_or c.args.rows.now column.0 0 - 1) column.1 ≡ value_of query tables chosen (get_or query.list c.loop-item.item-index (column_view (0, 0))) =
    ap (λ (t : ℕ). field_at (table_at tables t) (get_or c.args.rows.now column.0 0 - 1) column.1) c.table_of-table.ensures
    ∙ ap (λ (r : ℕ). field_at (table_at tables (item_at query.items column.0).table) (r - 1) column.1) (sym row.same) ∙ ap (value_of query tables chosen) there.same in
    let more = element_more (value_of query tables chosen) fields query.list c.loop-item.item-index (column_view (0, 0)) _ read there.place in
    subst (λ (fs : List (List ℕ)). HasFields fs c.push_value.new.records.begun) more (c.in_ok-push_value.ensures _ (c.loop-item.invariant fields has))

pub returns : goal.returns
returns c = λ fields has.
    let list = c.args.query.now.query.list in
    let all : take c.loop-item.item-index list ≡ list = all_columns c.columns-item-items.result.now list c.loop-item.item-index c.columns-item-items.ensures c.loop-item-test.false in
    subst (λ (l : List Column). HasFields (fields ++ map (value_of c.args.query.now.query c.args.tables.now (take (length c.args.query.now.query.items) c.args.rows.now)) l) c.loop-item.records.begun) all (c.loop-item.invariant fields has)
