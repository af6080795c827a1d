use Rattle.std.proofs.Common.{◌≡◌, Err, rules}
use Rattle.refusals.proofs.CoreItems.{places_cut, places_more, places_sent}
use Rattle.refusals.proofs.line.write_items.Goals as goal

pub returns-in_err-write_item : goal.returns-in_err-write_item
returns-in_err-write_item g c =
    let e : c.from_residual.result ≡ Err c.in_err-write_item.field-0.0 = search rules in
    rw e
    (places_cut c.args.core c.loop-place.place 16 _ _ _ _ c.loop-place-test.true c.loop-place.invariant.sent c.loop-place.invariant.faults c.in_err-write_item.ensures)

pub loop-place-preserved : goal.loop-place-preserved
loop-place-preserved g c = record {
  sent = places_more c.args.core c.loop-place.place _ _ _ c.loop-place.invariant.sent c.in_ok-write_item.ensures.whole;
  faults = search (rules, c.in_ok-write_item.ensures.later);
}

pub returns : goal.returns
returns g c =
    let all : c.loop-place.place ≡ 16 = search rules in
    places_sent c.args.core c.loop-place.place 16 _ _ all c.loop-place.invariant.sent c.loop-place.invariant.faults
