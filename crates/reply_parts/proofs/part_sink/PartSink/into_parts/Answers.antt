use Rattle.std.proofs.Common.{◌≡◌, subst}
use Rattle.std.specs.Io.KnownBytes.{Keeps}
use Rattle.reply_parts.specs.History.{history}
use Rattle.reply_parts.specs.Known.{seen, seen_through, told}
use Rattle.reply_parts.proofs.Telling.{seen_history, whole_seen}
use Rattle.reply_parts.proofs.part_sink.PartSink.into_parts.Goals as goal

pub returns-clause-history : goal.returns-clause-history
returns-clause-history g c =
    let s = c.args.self in
    let low = g.S.Sink.written s.lower in
    subst (λ m. Keeps (seen_through s.mark s.size s.sent low) (seen m (history low))) s.marked (seen_history s.mark s.size s.sent low)

pub returns-clause-whole : goal.returns-clause-whole
returns-clause-whole g c =
    let s = c.args.self in
    let low = g.S.Sink.written s.lower in
    λ whole. subst (λ m. seen_through s.mark s.size s.sent low ≡ seen m (told low)) s.marked (whole_seen s.mark s.size s.sent low whole)
