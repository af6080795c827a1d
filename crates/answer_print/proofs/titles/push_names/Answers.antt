use Rattle.std.proofs.Common.{◌≡◌, ◌++◌, ℕ, List, [], get_or, map, take, ap, subst, ◌∙◌}
use Rattle.anyk_model.specs.Table.{table_at}
use Rattle.anyk_model.specs.Query.{Column}
use Rattle.anyk_model.specs.Output.{column_name}
use Rattle.bound_query.specs.StoredParts.{column_view}
use Rattle.answer_print.specs.WrittenRecords.{HasFields}
use Rattle.answer_print.proofs.Places.{all_columns, column_there}
use Rattle.answer_print.proofs.Pushing.{element_more}
use Rattle.answer_print.proofs.titles.push_names.Goals as goal

pub table_of-requires : goal.table_of-requires
table_of-requires c =
    (column_there c.args.query.now.query c.args.tables.now c.columns-item-items.result.now c.loop-item.item-index (0, 0) c.requires.within c.columns-item-items.ensures c.loop-item-test.true).item

pub name-requires : goal.name-requires
name-requires c =
    let there = column_there c.args.query.now.query c.args.tables.now c.columns-item-items.result.now c.loop-item.item-index (0, 0) c.requires.within c.columns-item-items.ensures c.loop-item-test.true in
    rw c.table_of.ensures (record { table = there.table; column = there.column })

pub loop-item-preserved : goal.loop-item-preserved
loop-item-preserved c = λ fields has.
    let query = c.args.query.now.query in
    let there = column_there query c.args.tables.now c.columns-item-items.result.now c.loop-item.item-index (0, 0) c.requires.within c.columns-item-items.ensures c.loop-item-test.true in
    let place = (get_or c.columns-item-items.result.now c.loop-item.item-index (0, 0)).1 in
    let named : c.name.result.now ≡ column_name query c.args.tables.now (get_or query.list c.loop-item.item-index (column_view (0, 0))) =
    c.name.ensures ∙ ap (λ (t : ℕ). get_or (table_at c.args.tables.now t).names place []) c.table_of.ensures
    ∙ ap (column_name query c.args.tables.now) there.same in
    let more = element_more (column_name query c.args.tables.now) fields query.list c.loop-item.item-index (column_view (0, 0)) _ named there.place in
    subst (λ (fs : List (List ℕ)). HasFields fs c.push.new.self.begun) more (c.in_ok-push.ensures _ (c.loop-item.invariant fields has))

pub returns : goal.returns
returns c = λ fields has.
    let list = c.args.query.now.query.list in
    let all : take c.loop-item.item-index list ≡ list = all_columns c.columns-item-items.result.now list c.loop-item.item-index c.columns-item-items.ensures c.loop-item-test.false in
    subst (λ (l : List Column). HasFields (fields ++ map (column_name c.args.query.now.query c.args.tables.now) l) c.loop-item.records.begun) all (c.loop-item.invariant fields has)
