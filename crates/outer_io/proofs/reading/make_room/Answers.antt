use Rattle.std.proofs.Common.{◌+◌, ◌≤◌, length, take, ap, ◌∙◌, arith, rules, length-take}
use lib.Seq.{take-take, take-append-le}
use Rattle.std.proofs.lemmas.List.{places}
use Rattle.outer_io.proofs.reading.make_room.Goals as goal

pub returns-in_ok-resize-clause-front : goal.returns-in_ok-resize-clause-front
returns-in_ok-resize-clause-front c =
    let filled = c.args.filled in
    let end = filled + c.min.result in
    let within : filled ≤ length c.args.bytes.now.items = search (rules, places) in
    ap (take filled) c.in_ok-resize.ensures.items ∙ take-append-le filled (take end c.args.bytes.now.items) _ (omega (arith, length-take end c.args.bytes.now.items))
    ∙ take-take filled end c.args.bytes.now.items (omega arith)
