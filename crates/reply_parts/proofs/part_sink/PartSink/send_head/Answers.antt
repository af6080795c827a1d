use Rattle.std.proofs.Common.{◌≡◌, ◌≤◌, ◌+◌, ◌-◌, ◌++◌, ◌∙◌, length, take, drop, ap, sym, subst, arith, rules, length-append, length-take-le, length-drop}
use Rattle.std.specs.Io.KnownBytes.{Appends}
use Rattle.std.proofs.lemmas.List.{take_all}
use Rattle.reply_parts.specs.Heads.{head_of, word_of}
use Rattle.reply_parts.specs.Known.{seen_through, sent_after}
use Rattle.reply_parts.proofs.Sending.{reads_head}
use Rattle.reply_parts.proofs.Telling.{seen_more, seen_now}
use Rattle.std.proofs.Common.{List, Option, Some, None, ℕ}
use Rattle.std.proofs.KnownBytes.{Keeps-refl}
use Rattle.std.specs.Io.KnownBytes.{Keeps, WriteAppends}
use Rattle.outer_io.proofs.HandedOn.{handed_on}
use Rattle.reply_parts.specs.declared.mark.Mark.{Mark}
use Rattle.reply_parts.specs.declared.mark.Mark.TheVariants as mark
use Rattle.reply_parts.proofs.part_sink.PartSink.send_head.Goals as goal

-- where the sink below took nothing, nothing is told
kept_through : (m : Mark) (size sent : ℕ) (a b : Option (List ℕ)) → Keeps a b → Keeps (seen_through m size sent a) (seen_through m size sent b)
kept_through mark.Output size sent None b h = tt
kept_through mark.Errors size sent None b h = tt
kept_through m size sent (Some xs) None h = absurd h
kept_through m size sent (Some xs) (Some ys) h =
    subst (λ (l : List ℕ). Keeps (seen_through m size sent (Some xs)) (seen_through m size sent (Some l))) (sym h) (Keeps-refl (seen_through m size sent (Some xs)))

pub returns-in_err-taken-clause-written : goal.returns-in_err-taken-clause-written
returns-in_err-taken-clause-written g c =
    let old = c.args.self.now in
    let a = g.S.Sink.written old.lower in
    let b = g.S.Sink.written c.write_some.new.sink in
    handed_on (λ r. WriteAppends (seen_through old.mark old.size old.sent a) (seen_through old.mark old.size old.sent b) r c.args.bytes.now) _ c.in_err-taken.field-0.0
    c.from_residual.ensures.1 (kept_through old.mark old.size old.sent a b c.in_err-taken.ensures.written)

pub returns-clause-written : goal.returns-clause-written
returns-clause-written g c =
    let old = c.args.self.now in
    let bytes = c.args.bytes.now in
    let count = c.min-count.result in
    let taken = c.in_ok-taken.taken in
    let head = head_of (word_of old.mark) old.size in
    let within : count ≤ length bytes = search rules in
    let fits : count ≤ old.size = search rules in
    let piece : c.joined-piece.result.now ≡ drop old.sent head ++ take count bytes =
    c.joined-piece.ensures ∙ ap (λ h. take (13 - old.sent) (drop old.sent h) ++ take count bytes) c.part_head-head.ensures
    ∙ ap (λ l. l ++ take count bytes) (take_all (13 - old.sent) (drop old.sent head) (omega (arith, length-drop old.sent head))) in
    let long : length c.joined-piece.result.now ≡ 13 - old.sent + count =
    ap length piece ∙ omega (arith, length-append (drop old.sent head) (take count bytes), length-drop old.sent head, length-take-le count bytes within) in
    let all : taken ≤ 13 - old.sent + count = omega (arith, c.in_ok-taken.ensures.within.1, long) in
    let low = g.S.Sink.written c.write_some.new.sink in
    let grown = subst (Appends (g.S.Sink.written old.lower) low) (ap (take taken) piece) c.in_ok-taken.ensures.written in
    let reads = reads_head old.mark old.size old.sent c.requires.head (omega (arith, old.fits)) bytes count taken within fits all in
    let same = c.advance.ensures.same in
    let front : length (take (13 - old.sent) (drop old.sent c.part_head-head.result)) ≡ 13 - old.sent =
    ap (λ h. length (take (13 - old.sent) (drop old.sent h))) c.part_head-head.ensures
    ∙ length-take-le (13 - old.sent) (drop old.sent head) (omega (arith, length-drop old.sent head)) in
    let body : taken - (13 - old.sent) ≡ c.saturating_sub-body.result = ap (λ n. taken - n) (sym front) ∙ sym c.saturating_sub-body.ensures in
    let told = seen_more old.mark old.size old.sent (sent_after old.size (old.sent + taken)) (taken - (13 - old.sent)) (g.S.Sink.written old.lower) low _ bytes reads (λ k. omega (arith, c.type_inv.bytes k)) grown in
    seen_now _ old.mark _ old.size _ _ _ low _ (take c.saturating_sub-body.result bytes) same.1 same.2 c.advance.ensures.sent (ap g.S.Sink.written same.0)
    (subst
    (λ n. Appends (seen_through old.mark old.size old.sent (g.S.Sink.written old.lower)) (seen_through old.mark old.size (sent_after old.size (old.sent + taken)) low) (take n bytes)) body told)
