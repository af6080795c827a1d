use Rattle.std.proofs.Common.{◌≡◌, ◌+◌, Option, inl, inr, refl, sym, ◌∙◌, arith}
use Rattle.std.proofs.lemmas.Bool.{false≢true}
use Rattle.tdp_core.specs.declared.ranked.Answer.{Answer}
use Rattle.tdp_core.specs.AnswerView.{counted}
use Rattle.cursor_set.proofs.Counting.{known_from, least, never_behind, one_more, refused_all, refused_more, refused_past, room_at_start, room_left}
use Rattle.cursor_set.proofs.Driving.{start_of, start_is, IsDriven-none, IsDriven-place, IsDriven-same, IsDriven-more, IsDriven-moved, IsDriven-end, refused_at, refused_counted, counted_none}
use Rattle.cursor_set.proofs.laws.drive.Goals.{then-refused-refusals-via-then-refused-refusals, then-refused-refusals-via-else-refused-refusals+then-refused}
use Rattle.cursor_set.proofs.laws.drive.Goals as goal
use Rattle.tdp_core.proofs.LoopCounts.{ended}

pub loop-given-init : goal.loop-given-init
loop-given-init g c = record {
  given = least _;
  refused = least _;
  room = room_at_start;
  driven = IsDriven-none c.args.cursors.now c.args.id.number c.requires.0 c.requires.1;
  counted = counted_none c.args.cursors.now.refused (omega arith);
  covered = λ _. refl;
  after_end = λ _. refl;
}

pub loop-given-preserved-in-Ok-Some : goal.loop-given-preserved-in-Ok-Some
loop-given-preserved-in-Ok-Some g c =
    let before = c.loop-given.invariant in
    let here = IsDriven-place c.args.cursors.now c.loop-given.cursors c.args.id.number c.loop-given.given before.driven in
    let some = rw here at (rw c.in-Ok-Some.field-0-is at c.in-Ok-Some.ensures.some) in
    record {
      given = one_more _ _ c.loop-given-test.true;
      refused = before.refused;
      room = before.room;
      driven = IsDriven-more c.args.cursors.now c.loop-given.cursors c.next.new.self c.args.id.number c.loop-given.given (start_of c.args.cursors.now c.args.id.number + c.loop-given.given) before.driven here some.1 c.in-Ok-Some.ensures.kept;
      counted = c.in-Ok-Some.ensures.counted ∙ before.counted;
      covered = before.covered;
      after_end = before.after_end;
    }

-- # The end was met

pub returns-in-Ok-None : goal.returns-in-Ok-None
returns-in-Ok-None g c =
    let before = c.loop-given.invariant in
    let end = rw c.in-Ok-None.field-0-is at c.in-Ok-None.ensures.end in
    let driven = IsDriven-same c.args.cursors.now c.loop-given.cursors c.next.new.self c.args.id.number c.loop-given.given before.driven end.1 c.in-Ok-None.ensures.kept in
    record {
      places = λ place at. IsDriven-moved c.args.cursors.now c.next.new.self c.args.id.number c.loop-given.given place driven at;
      kept = driven.kept;
      counted = c.in-Ok-None.ensures.counted ∙ c.loop-given.invariant.counted;
      outcome = λ place at. inr (inl (c.loop-given-test.true, refl, before.refused, IsDriven-end c.args.cursors.now c.loop-given.cursors c.args.id.number c.loop-given.given place before.driven at end.0));
      covered = λ place at within. before.covered (known_from _ _ _ _ within (start_is c.args.cursors.now c.args.id.number place at));
      after_end = c.loop-given.invariant.after_end;
    }

-- # Memory was refused

pub returns-then-refused-refusals : goal.returns-then-refused-refusals
returns-then-refused-refusals g c =
    let before = c.loop-given.invariant in
    let driven = IsDriven-same c.args.cursors.now c.loop-given.cursors c.next.new.self c.args.id.number c.loop-given.given before.driven c.in-Err.ensures.refused.1 c.in-Err.ensures.kept in
    let here = IsDriven-place c.args.cursors.now c.loop-given.cursors c.args.id.number c.loop-given.given before.driven in
    let one : c.next.new.self.refused ≡ counted c.loop-given.cursors.refused = c.in-Err.ensures.counted ∙ refused_counted (Option (Answer g.row.E-Key.Denot)) c.loop-given.cursors c.args.id.number (start_of c.args.cursors.now c.args.id.number + c.loop-given.given) c.loop-given.cursors.refused c.in-Err.field-0 c.in-Err.ensures.refused.0 here in
    let known = refused_at c.loop-given.cursors c.args.id.number (start_of c.args.cursors.now c.args.id.number + c.loop-given.given) c.in-Err.field-0 c.in-Err.ensures.refused.0 here in
    record {
      places = λ place at. IsDriven-moved c.args.cursors.now c.next.new.self c.args.id.number c.loop-given.given place driven at;
      kept = driven.kept;
      counted = refused_more _ _ _ _ one before.counted;
      outcome =
          elim c.then-refused-refusals.branch [
            | then-refused-refusals-via-then-refused-refusals w ↦ λ place at. inr (inr (c.loop-given-test.true, refl, refused_past _ _ before.refused before.room w.if-refused-refusals.true))
            | then-refused-refusals-via-else-refused-refusals+then-refused w ↦ λ place at. inr (inr (c.loop-given-test.true, refl, refused_all _ _ w.if-refused-refusals.false w.if-refused.true))
          ];
      covered = λ place at within. never_behind _ _ _ _ _ (known_from _ _ _ _ within (start_is c.args.cursors.now c.args.id.number place at)) known.0 before.driven.kept.known c.loop-given-test.true;
      after_end = λ end. absurd (false≢true (sym known.1 ∙ before.driven.kept.ended end));
    }

pub loop-given-preserved : goal.loop-given-preserved
loop-given-preserved g c =
    let before = c.loop-given.invariant in
    let here = IsDriven-place c.args.cursors.now c.loop-given.cursors c.args.id.number c.loop-given.given before.driven in
    let known = refused_at c.loop-given.cursors c.args.id.number (start_of c.args.cursors.now c.args.id.number + c.loop-given.given) c.in-Err.field-0 c.in-Err.ensures.refused.0 here in
    let driven = IsDriven-same c.args.cursors.now c.loop-given.cursors c.next.new.self c.args.id.number c.loop-given.given before.driven c.in-Err.ensures.refused.1 c.in-Err.ensures.kept in
    let one : c.next.new.self.refused ≡ counted c.loop-given.cursors.refused = c.in-Err.ensures.counted ∙ refused_counted (Option (Answer g.row.E-Key.Denot)) c.loop-given.cursors c.args.id.number (start_of c.args.cursors.now c.args.id.number + c.loop-given.given) c.loop-given.cursors.refused c.in-Err.field-0 c.in-Err.ensures.refused.0 here in
    record {
      given = before.given;
      refused = c.if-refused-refusals.false;
      room = room_left _ _ before.room c.if-refused.false;
      driven = driven;
      counted = refused_more _ _ _ _ one before.counted;
      covered = λ within. never_behind _ _ _ _ _ within known.0 before.driven.kept.known c.loop-given-test.true;
      after_end = λ end. absurd (false≢true (sym known.1 ∙ before.driven.kept.ended end));
    }

-- # All were given

pub returns : goal.returns
returns g c =
    let before = c.loop-given.invariant in
    record {
      places = λ place at. IsDriven-moved c.args.cursors.now c.loop-given.cursors c.args.id.number c.loop-given.given place c.loop-given.invariant.driven at;
      kept = c.loop-given.invariant.driven.kept;
      counted = c.loop-given.invariant.counted;
      outcome = λ place at. inl (ended _ _ before.given c.loop-given-test.false, refl, before.refused);
      covered = λ place at within. before.covered (known_from _ _ _ _ within (start_is c.args.cursors.now c.args.id.number place at));
      after_end = c.loop-given.invariant.after_end;
    }
