use Rattle.std.proofs.Common.{arith}
use Rattle.table_store.proofs.Places.{is_read}
use Rattle.table_store.proofs.tables.Tables.width.Goals as goal

pub overflow_cast-result : goal.overflow_cast-result
overflow_cast-result c =
    let r = is_read c.self.inside.tables.items c.args.table c.index.result.now c.args.self.now c.self.invariant c.self.view_is c.requires c.index.ensures in
    omega (arith, c.index.result.now.names.ok.0, r.few_columns)

pub returns : goal.returns
returns c =
    let r = is_read c.self.inside.tables.items c.args.table c.index.result.now c.args.self.now c.self.invariant c.self.view_is c.requires c.index.ensures in
    record { columns = omega (arith, c.index.result.now.names.ok.0, r.columns); limit = omega (arith, c.index.result.now.names.ok.0, r.few_columns) }
