use Rattle.std.proofs.Common.{◌≡◌, Err, rules, codes}
use Rattle.refusals.specs.Reason.{spaced}
use Rattle.hyper_graph.specs.Items.{items_of}
use Rattle.refusals.proofs.Sending.{Sent-stopped, Sent-then}
use Rattle.refusals.proofs.line.write_cyclic.Goals as goal

pub returns-in_err-write_text : goal.returns-in_err-write_text
returns-in_err-write_text g c =
    let e : c.from_residual.result ≡ Err c.in_err-write_text.field-0.0 = search rules in
    rw e (Sent-stopped _ _ (codes "cyclic query: items") (spaced (items_of c.args.core)) _ c.in_err-write_text.ensures)

pub returns : goal.returns
returns g c =
    Sent-then _ _ _ (codes "cyclic query: items") (spaced (items_of c.args.core)) _ c.in_ok-write_text.ensures.whole c.in_ok-write_text.ensures.later c.write_items.ensures
