use Rattle.std.proofs.Common.{◌∙◌, ◌≤◌, refl, subst, sym}
use Rattle.stream_store.proofs.Rooms.{le_lt, none_on_ok, room_missing, room_there}
use Rattle.stream_store.proofs.store.make_room.Goals as goal

pub returns : goal.returns
returns g c =
    let inv = c.loop-made.invariant in
    record {
      filled = inv.filled;
      made = inv.made;
      entries = inv.entries;
      ok = room_there c.args.len c.args.count c.args.made.now c.loop-made.made c.requires.within inv.grows c.loop-made-test.false;
      grows = inv.grows;
      small = inv.small;
      succeeds = λ _. refl;
    }

pub returns-in_err-make_bucket : goal.returns-in_err-make_bucket
returns-in_err-make_bucket g c =
    let inv = c.loop-made.invariant in
    let made = c.in_err-make_bucket.ensures in
    record {
      filled = made.filled c.args.len inv.filled;
      made = made.made;
      entries = made.entries ∙ inv.entries;
      ok = none_on_ok c.from_residual.result _ c.from_residual.ensures.0;
      grows = subst (λ n. c.args.made.now ≤ n) (sym made.err) inv.grows;
      small = made.small;
      succeeds = λ enough. absurd (room_missing c.args.len c.args.count c.args.made.now c.loop-made.made inv.grows c.loop-made-test.true enough);
    }

pub loop-made-preserved : goal.loop-made-preserved
loop-made-preserved g c =
    let inv = c.loop-made.invariant in
    let made = c.in_ok-make_bucket.ensures in
    record {
      filled = made.filled c.args.len inv.filled;
      made = made.made;
      entries = made.entries ∙ inv.entries;
      grows = le_lt c.args.made.now c.loop-made.made c.make_bucket.new.made inv.grows made.ok;
      small = made.small;
    }
