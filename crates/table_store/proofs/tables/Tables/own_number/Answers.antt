use Rattle.std.proofs.Common.{◌-◌, [], sym, arith}
use Rattle.anyk_model.specs.Table.{field_at, table_at}
use Rattle.table_store.specs.Values.{with_tables}
use Rattle.table_store.proofs.Own.{own_above, own_below}
use Rattle.table_store.proofs.tables.Tables.own_number.Goals as goal

pub returns-then-number-lt-FIRST_TEXT : goal.returns-then-number-lt-FIRST_TEXT
returns-then-number-lt-FIRST_TEXT c =
    let field = field_at (table_at c.args.self.now c.args.table) (c.args.row - 1) c.args.col in
    sym (own_below (with_tables [] c.args.self.now) field c.value-number.result c.value-number.ensures c.if-number-lt-FIRST_TEXT.true)

pub returns-else-number-lt-FIRST_TEXT : goal.returns-else-number-lt-FIRST_TEXT
returns-else-number-lt-FIRST_TEXT c =
    let field = field_at (table_at c.args.self.now c.args.table) (c.args.row - 1) c.args.col in
    sym (own_above (with_tables [] c.args.self.now) field c.value-number.result c.value-number.ensures (omega (arith, c.if-number-lt-FIRST_TEXT.false)))
