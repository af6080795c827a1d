use Rattle.std.proofs.Common.{◌≤◌, ◌+◌, length, take, ap, subst, arith, rules, length-take-le}
use Rattle.std.specs.Io.KnownBytes.{Appends}
use Rattle.reply_parts.proofs.Sending.{reads_body, take_within}
use Rattle.reply_parts.proofs.Telling.{seen_more, seen_now}
use Rattle.reply_parts.proofs.part_sink.PartSink.send_body.Goals as goal

pub returns-clause-written : goal.returns-clause-written
returns-clause-written g c =
    let old = c.args.self.now in
    let bytes = c.args.bytes.now in
    let count = c.min-count.result in
    let taken = c.in_ok-taken.taken in
    let within : count ≤ length bytes = search rules in
    let few : taken ≤ count = omega (arith, c.in_ok-taken.ensures.within.1, length-take-le count bytes within) in
    let room : taken + old.sent ≤ old.size + 13 = search rules in
    let low = g.S.Sink.written c.write_some.new.sink in
    let grown = subst (Appends (g.S.Sink.written old.lower) low) (take_within taken count bytes few within) c.in_ok-taken.ensures.written in
    let reads = reads_body old.mark old.size old.sent taken bytes c.requires.body (omega (arith, few, within)) room in
    let same = c.advance.ensures.same in
    seen_now _ old.mark _ old.size _ _ _ low _ (take taken bytes) same.1 same.2 c.advance.ensures.sent (ap g.S.Sink.written same.0)
    (seen_more old.mark old.size old.sent _ taken (g.S.Sink.written old.lower) low (take taken bytes) bytes reads (λ k. omega (arith, c.type_inv.bytes k)) grown)
