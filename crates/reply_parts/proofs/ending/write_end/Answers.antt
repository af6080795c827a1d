use Rattle.std.proofs.Common.{length, ap, arith}
use Rattle.reply_parts.proofs.Ends.{end_broke, ended}
use Rattle.reply_parts.proofs.ending.write_end.Goals as goal

pub returns-clause-ended : goal.returns-clause-ended
returns-clause-ended g c =
    let old = g.S.Sink.written c.args.out.now in
    let new = g.S.Sink.written c.write_all.new.sink in
    ended c.write_all.result old new c.end_head.result c.args.status (omega (arith, c.ranges.status)) c.end_head.ensures c.write_all.ensures.all

pub returns-clause-part : goal.returns-clause-part
returns-clause-part g c =
    let old = g.S.Sink.written c.args.out.now in
    let new = g.S.Sink.written c.write_all.new.sink in
    end_broke c.write_all.result old new c.end_head.result (ap length c.end_head.ensures) c.write_all.ensures.part c.write_all.ensures.within
