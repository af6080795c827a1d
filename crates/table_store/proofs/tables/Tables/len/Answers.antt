use Rattle.std.proofs.Common.{sym, arith}
use Rattle.table_store.proofs.Places.{is_read}
use Rattle.table_store.proofs.tables.Tables.len.Goals as goal

pub overflow_cast-result : goal.overflow_cast-result
overflow_cast-result c =
    omega (arith, (is_read c.self.inside.tables.items c.args.table c.index.result.now c.args.self.now c.self.invariant c.self.view_is c.requires c.index.ensures).few_rows)

pub returns : goal.returns
returns c =
    let r = is_read c.self.inside.tables.items c.args.table c.index.result.now c.args.self.now c.self.invariant c.self.view_is c.requires c.index.ensures in
    record { rows = sym r.rows; limit = r.few_rows }
