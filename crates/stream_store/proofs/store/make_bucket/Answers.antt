use Rattle.std.proofs.Common.{◌≡◌, ◌+◌, [], ◌∷◌, ◌++◌, ap, arith, refl, subst, sym, ◌∙◌}
use Rattle.std.specs.Vec.{vec_len, vec_capacity}
use Rattle.stream_store.specs.Buckets.{AreFilled, joined, whole_room}
use Rattle.stream_store.proofs.Rooms.{made_more, none_on_ok, on_err, within_32}
use Rattle.stream_store.proofs.Buckets.{whole_room_next, joined_added, AreFilled-added, whole_room_added}
use Rattle.stream_store.proofs.store.make_bucket.Goals as goal

pub returns : goal.returns
returns g c =
    let bs = c.args.buckets.now.items in
    let bucket = c.in_ok-with_capacity.field-0 in
    let told = c.in_ok-with_capacity.ensures in
    let due = whole_room_next 16 bs in
    let exact : vec_capacity bucket ≡ (c.args.made.now + 16) = told.exact in
    let none : vec_len bucket ≡ 0 = told.len in
    let empty : bucket.items ≡ [] = told.items in
    let items = c.push_reserved.ensures.items ∙ ap (λ l. l ++ bucket ∷ []) c.reserve.ensures.items in
    record {
      filled = λ len filled. rw items (AreFilled-added 16 len bs bucket filled none (omega arith));
      made = rw items (omega (arith, whole_room_added 16 bs bucket));
      entries = rw items (joined_added bs bucket empty);
      ok = made_more c.args.made.now;
      small = within_32 (c.args.made.now + (c.args.made.now + 16)) c.if-total-gt-MOST.false;
      err = tt;
    }

pub returns-in_err-with_capacity : goal.returns-in_err-with_capacity
returns-in_err-with_capacity g c =
    let r = c.from_residual-in_err-with_capacity.result in
    let same = c.reserve.ensures.items in
    record {
      filled = λ len filled. subst (λ bs. AreFilled 16 len bs) (sym same) filled;
      made = c.requires.made ∙ ap (λ bs. whole_room 16 bs) (sym same);
      entries = ap (λ bs. joined bs) same;
      ok = none_on_ok r _ c.from_residual-in_err-with_capacity.ensures.0;
      small = c.requires.small;
      err = on_err r refl;
    }

pub returns-in_err-reserve : goal.returns-in_err-reserve
returns-in_err-reserve g c =
    let r = c.from_residual-in_err-reserve.result in
    let same = c.reserve.ensures.items in
    record {
      filled = λ len filled. subst (λ bs. AreFilled 16 len bs) (sym same) filled;
      made = c.requires.made ∙ ap (λ bs. whole_room 16 bs) (sym same);
      entries = ap (λ bs. joined bs) same;
      ok = none_on_ok r _ c.from_residual-in_err-reserve.ensures.0;
      small = c.requires.small;
      err = on_err r refl;
    }

pub returns-in_err-alloc : goal.returns-in_err-alloc
returns-in_err-alloc g c =
    let r = c.from_residual.result in
    record {
      filled = λ len filled. filled;
      made = c.requires.made;
      entries = refl;
      ok = none_on_ok r _ c.from_residual.ensures.0;
      small = c.requires.small;
      err = on_err r refl;
    }

pub returns-then-total-gt-MOST : goal.returns-then-total-gt-MOST
returns-then-total-gt-MOST g c = record {
  filled = λ len filled. filled;
  made = c.requires.made;
  entries = refl;
  ok = tt;
  small = c.requires.small;
  err = refl;
}
