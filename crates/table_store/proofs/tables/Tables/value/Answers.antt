use Rattle.std.proofs.Common.{arith}
use Rattle.table_store.proofs.Places.{has_cell}
use Rattle.table_store.proofs.tables.Tables.value.Goals as goal

pub index-requires : goal.index-requires
index-requires c =
    let s = c.index-stored.result.now in
    let cell = has_cell c.self.inside.tables.items c.args.table s c.args.self.now c.args.row c.args.col c.len.result c.self.invariant c.self.view_is c.requires.table c.index-stored.ensures
    c.requires.first c.requires.row c.requires.column (omega (arith, c.len.ensures, s.names.ok.0)) in
    omega (arith, cell.cell_there, s.rows.cells.ok.0)

pub returns : goal.returns
returns c =
    let s = c.index-stored.result.now in
    (has_cell c.self.inside.tables.items c.args.table s c.args.self.now c.args.row c.args.col c.len.result c.self.invariant c.self.view_is c.requires.table c.index-stored.ensures
    c.requires.first c.requires.row c.requires.column (omega (arith, c.len.ensures, s.names.ok.0))).number c.index.result.now c.index.ensures
