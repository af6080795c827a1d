use Rattle.std.proofs.Common.{◌∙◌, ◌<◌, length, arith}
use Rattle.command_output.proofs.Rows.{rows_all, rows_more}
use Rattle.command_output.proofs.summary_text.rows_in_all.Goals as goal

pub loop-table-preserved : goal.loop-table-preserved
loop-table-preserved c =
    let inside : c.loop-table.table < length c.args.tables.now = omega (arith, c.loop-table-test.true, c.count-table-end.ensures.count) in
    let more = rows_more c.args.tables.now c.loop-table.table inside in
    record {
      sum = omega (arith, more, c.len-sum.ensures.rows, c.loop-table.invariant.sum);
      small = omega (arith, c.len-sum.ensures.limit, c.loop-table.invariant.small);
    }

pub returns : goal.returns
returns c = c.loop-table.invariant.sum ∙ rows_all c.args.tables.now c.loop-table.table (omega (arith, c.loop-table-test.false, c.count-table-end.ensures.count))
