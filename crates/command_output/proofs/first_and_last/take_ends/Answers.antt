use Rattle.std.proofs.Common.{◌+◌, refl, arith}
use Rattle.std.proofs.lemmas.List.{length-take-le}
use Rattle.std.proofs.lemmas.Result.{IfOk-from_err}
use Rattle.bound_query.proofs.Pacing.{calls_more, calls_same}
use Rattle.bound_query.proofs.Calls.{called_more, counted_few, limit_below, limit_reached, limit_within, HasCalled}
use Rattle.command_output.proofs.GivenEnds.{calls_within, taken_all, taken_limit, taken_more}
use Rattle.tdp_core.proofs.OptionFacts.{at_none, at_some}
use Rattle.command_output.proofs.Limits.{none_within, reached_within}
use Rattle.command_output.proofs.first_and_last.take_ends.Given.{Over}
use Rattle.command_output.proofs.first_and_last.take_ends.Goals.{After-next}
use Rattle.command_output.proofs.first_and_last.take_ends.Goals as goal

-- the calls, with the next one
called_next : (g : Over) (c : After-next g) → HasCalled g.E.Ranked.share (g.E.Ranked.size c.args.engine.now) (g.E.Ranked.calls c.args.engine.now) (c.loop-given._given + 1)
    (g.E.Ranked.size c.next.new.self) (g.E.Ranked.calls c.next.new.self) c.args.steps.now c.next.new.steps
called_next g c =
    called_more g.E.Ranked.share g.met.E.Ranked.share_rises (g.E.Ranked.size c.args.engine.now) (g.E.Ranked.calls c.args.engine.now) c.loop-given._given
    (g.E.Ranked.size c.loop-given.engine) (g.E.Ranked.size c.next.new.self) (g.E.Ranked.calls c.loop-given.engine) (g.E.Ranked.calls c.next.new.self)
    c.args.steps.now c.loop-given.steps c.next.new.steps (g.E.Ranked.due c.loop-given.engine) c.loop-given.invariant.called
    (g.met.E.Ranked.due_within c.loop-given.engine) c.next.ensures.cost (counted_few _ _ c.next.ensures.counted) c.next.ensures.size

pub returns-in_err-answer : goal.returns-in_err-answer
returns-in_err-answer g c =
    let answers = g.E.Ranked.rest c.args.engine.now in
    let i = c.loop-given._given in
    let below = limit_below c.args.limit i _ _ c.unwrap_or-most.ensures c.loop-given-test.true in
    record {
      ends = IfOk-from_err c.from_residual.result _ c.from_residual.ensures.0;
      bounded =
          let called = called_next g (goal.at.returns-in_err-answer g c).After-next in
          calls_within g.E.Ranked.share g.met.E.Ranked.share_rises (g.E.Ranked.size c.args.engine.now) (g.E.Ranked.calls c.args.engine.now) (i + 1) _ (g.E.Ranked.size c.next.new.self)
          (g.E.Ranked.calls c.next.new.self) c.args.steps.now c.next.new.steps called (calls_more c.args.limit answers i c.loop-given.invariant.within below);
    }

pub returns-in_default : goal.returns-in_default
returns-in_default g c =
    let i = c.loop-given._given in
    let low = limit_within c.args.limit i _ _ c.unwrap_or-most.ensures c.loop-given-test.true in
    let ended = at_none _ _ c.in_default.is c.in_ok-answer.ensures.end in
    let answers = g.E.Ranked.rest c.args.engine.now in
    let below = limit_below c.args.limit i _ _ c.unwrap_or-most.ensures c.loop-given-test.true in
    record {
      ends = taken_all (g.E.Ranked.rest c.args.engine.now) i (g.E.Ranked.rest c.loop-given.engine) c.loop-given.ends g.E.Ranked.share (g.E.Ranked.size c.args.engine.now) (g.E.Ranked.calls c.args.engine.now)
          (g.E.Ranked.size c.loop-given.engine) (g.E.Ranked.calls c.loop-given.engine) c.args.steps.now c.loop-given.steps c.loop-given.invariant c.args.limit low ended.0;
      bounded =
          let called = called_next g (goal.at.returns-in_default g c).After-next in
          calls_within g.E.Ranked.share g.met.E.Ranked.share_rises (g.E.Ranked.size c.args.engine.now) (g.E.Ranked.calls c.args.engine.now) (i + 1) _ (g.E.Ranked.size c.next.new.self)
          (g.E.Ranked.calls c.next.new.self) c.args.steps.now c.next.new.steps called (calls_more c.args.limit answers i c.loop-given.invariant.within below);
    }

pub push-requires : goal.push-requires
push-requires g c =
    let taken = length-take-le c.loop-given._given (g.E.Ranked.rest c.args.engine.now) c.loop-given.invariant.within in
    omega (arith, taken, c.loop-given.invariant.kept.count, c.loop-given-test.true, c.loop-given.auto._given-end)

pub loop-given-preserved : goal.loop-given-preserved
loop-given-preserved g c =
    let answers = g.E.Ranked.rest c.args.engine.now in
    let i = c.loop-given._given in
    let found = at_some _ _ _ c.in-Some.is c.in_ok-answer.ensures.found in
    taken_more answers i (g.E.Ranked.rest c.loop-given.engine) c.loop-given.ends g.E.Ranked.share (g.E.Ranked.size c.args.engine.now) (g.E.Ranked.calls c.args.engine.now)
    (g.E.Ranked.size c.loop-given.engine) (g.E.Ranked.calls c.loop-given.engine) c.args.steps.now c.loop-given.steps c.loop-given.invariant _ _ _ _ _ _ found
    (c.push.ensures _ _ c.loop-given.invariant.kept refl) (called_next g (goal.at.loop-given-preserved g c).After-next)

pub returns-then-is_none : goal.returns-then-is_none
returns-then-is_none g c =
    let answers = g.E.Ranked.rest c.args.engine.now in
    let i = c.loop-given._given in
    let low = none_within c.args.limit c.args.limit i refl c.if-is_none.ensures in
    record {
      ends = tt;
      bounded = calls_within g.E.Ranked.share g.met.E.Ranked.share_rises (g.E.Ranked.size c.args.engine.now) (g.E.Ranked.calls c.args.engine.now) i _ (g.E.Ranked.size c.loop-given.engine)
          (g.E.Ranked.calls c.loop-given.engine) c.args.steps.now c.loop-given.steps c.loop-given.invariant.called (calls_same c.args.limit answers i c.loop-given.invariant.within low);
    }

pub returns : goal.returns
returns g c =
    let i = c.loop-given._given in
    let reached = limit_reached c.args.limit i _ _ c.unwrap_or-most.ensures c.if-is_none.ensures c.loop-given-test.false c.loop-given.auto._given-end in
    let answers = g.E.Ranked.rest c.args.engine.now in
    let low = reached_within c.args.limit i reached in
    record {
      ends = taken_limit (g.E.Ranked.rest c.args.engine.now) i (g.E.Ranked.rest c.loop-given.engine) c.loop-given.ends g.E.Ranked.share (g.E.Ranked.size c.args.engine.now) (g.E.Ranked.calls c.args.engine.now)
          (g.E.Ranked.size c.loop-given.engine) (g.E.Ranked.calls c.loop-given.engine) c.args.steps.now c.loop-given.steps c.loop-given.invariant c.args.limit reached;
      bounded = calls_within g.E.Ranked.share g.met.E.Ranked.share_rises (g.E.Ranked.size c.args.engine.now) (g.E.Ranked.calls c.args.engine.now) i _ (g.E.Ranked.size c.loop-given.engine)
          (g.E.Ranked.calls c.loop-given.engine) c.args.steps.now c.loop-given.steps c.loop-given.invariant.called (calls_same c.args.limit answers i c.loop-given.invariant.within low);
    }
