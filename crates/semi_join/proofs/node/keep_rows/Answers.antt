use Rattle.std.proofs.Common.{arith}
use Rattle.semi_join.proofs.Sources.{few_rows}
use Rattle.semi_join.proofs.node.keep_rows.Goals as goal

pub overflow_cast-len : goal.overflow_cast-len
overflow_cast-len g c =
    let s = c.requires in
    let most = few_rows s.0 c.args.node c.args.later.now c.args.children.now c.args.columns.rows c.args.columns.owns.items c.args.columns.named.rows s.1 in
    omega (arith, most, c.len.ensures)
