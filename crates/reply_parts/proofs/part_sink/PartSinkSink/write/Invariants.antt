use Rattle.std.proofs.Common.{◌-◌, ◌≤◌, ◌<◌, []}
use Rattle.std.specs.Io.KnownBytes.{Appends}
use Rattle.reply_parts.specs.Known.{seen_through}
use Rattle.reply_parts.proofs.part_sink.PartSinkSink.write.Given as goal

abbrev pub invariant-head : goal.invariant-head
invariant-head g l =
    let old = l.fn.self in
    record {
      begun : 0 < l.self.size;
      same : Appends (seen_through old.mark old.size old.sent (g.S.Sink.written old.lower))
          (seen_through l.self.mark l.self.size l.self.sent (g.S.Sink.written l.self.lower)) [];
      faults : g.S.Sink.faults old.lower ≤ g.S.Sink.faults l.self.lower;
    }

abbrev pub decreases-head : goal.decreases-head
decreases-head g l = 13 - l.self.sent
