use Rattle.std.proofs.Common.{◌≡◌, [], take, subst, arith, rules}
use Rattle.std.specs.Io.KnownBytes.{Appends, WriteAppends}
use Rattle.std.proofs.KnownBytes.{Appends-trans}
use Rattle.outer_io.proofs.HandedOn.{handed_on}
use Rattle.reply_parts.specs.Known.{seen_through}
use Rattle.reply_parts.proofs.Telling.{kept_after, then_written}
use Rattle.reply_parts.proofs.part_sink.PartSinkSink.write.Goals as goal

pub returns-in_err-count-clause-written : goal.returns-in_err-count-clause-written
returns-in_err-count-clause-written g c =
    let old = c.args.self.now in
    let mid = c.head.self in
    let new = c.send_head.new.self in
    let a = seen_through old.mark old.size old.sent (g.S.Sink.written old.lower) in
    let b = seen_through mid.mark mid.size mid.sent (g.S.Sink.written mid.lower) in
    let d = seen_through new.mark new.size new.sent (g.S.Sink.written new.lower) in
    let bytes = c.args.bytes.now in
    handed_on (λ r. WriteAppends a d r bytes) _ c.in_err-count.field-0.0 c.from_residual.ensures.1
    (kept_after a b d c.head.invariant.same c.in_err-count.ensures.written)

pub returns-then-count-gt0-clause-written : goal.returns-then-count-gt0-clause-written
returns-then-count-gt0-clause-written g c =
    Appends-trans _ _ _ [] (take c.in_ok-count.count c.args.bytes.now) c.head.invariant.same c.in_ok-count.ensures.written

pub head-preserved : goal.head-preserved
head-preserved g c =
    let old = c.args.self.now in
    let new = c.send_head.new.self in
    let a = seen_through old.mark old.size old.sent (g.S.Sink.written old.lower) in
    let d = seen_through new.mark new.size new.sent (g.S.Sink.written new.lower) in
    let none : c.in_ok-count.count ≡ 0 = omega (arith, c.if-count-gt0.false) in
    record {
      begun = omega (arith, (c.in_ok-count.ensures.further none).1, c.head.invariant.begun);
      same = subst (λ n. Appends a d (take n c.args.bytes.now)) none
          (Appends-trans _ _ _ [] (take c.in_ok-count.count c.args.bytes.now) c.head.invariant.same c.in_ok-count.ensures.written);
      faults = search rules;
    }

pub returns-clause-written : goal.returns-clause-written
returns-clause-written g c = then_written _ _ _ c.send_body.result c.args.bytes.now c.head.invariant.same c.send_body.ensures.written
