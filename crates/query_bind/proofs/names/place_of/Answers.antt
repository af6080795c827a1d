use Rattle.std.proofs.Common.{◌<◌, ◌∙◌, [], length, arith, sym, ap}
use Rattle.std.specs.Str.{bytes_eq}
use Rattle.anyk_model.specs.Table.{table_at}
use Rattle.query_bind.proofs.Search.{position_end, position_hit, position_miss}
use Rattle.query_bind.proofs.names.place_of.Goals as goal

pub name-requires-clause-column : goal.name-requires-clause-column
name-requires-clause-column c = omega (arith, c.loop-column-test.true, c.width-column-end.ensures.columns)

pub returns-then-eq : goal.returns-then-eq
returns-then-eq c =
    let names = (table_at c.args.tables.now c.args.table).names in
    let inside : c.loop-column.column < length names = omega (arith, c.loop-column-test.true, c.width-column-end.ensures.columns) in
    sym (position_hit (bytes_eq c.args.name.now) names c.loop-column.column [] inside (ap (bytes_eq c.args.name.now) (sym c.name.ensures) ∙ sym c.eq.ensures ∙ c.if-eq.true))
    ∙ c.loop-column.invariant

pub loop-column-preserved : goal.loop-column-preserved
loop-column-preserved c =
    let names = (table_at c.args.tables.now c.args.table).names in
    let inside : c.loop-column.column < length names = omega (arith, c.loop-column-test.true, c.width-column-end.ensures.columns) in
    position_miss (bytes_eq c.args.name.now) names c.loop-column.column [] inside (ap (bytes_eq c.args.name.now) (sym c.name.ensures) ∙ sym c.eq.ensures ∙ c.if-eq.false)
    ∙ c.loop-column.invariant

pub returns : goal.returns
returns c =
    let names = (table_at c.args.tables.now c.args.table).names in
    sym (position_end (bytes_eq c.args.name.now) names c.loop-column.column (omega (arith, c.loop-column-test.false, c.width-column-end.ensures.columns)))
    ∙ c.loop-column.invariant
