use Rattle.std.proofs.Common.{◌++◌, length, take, ap, ◌∙◌}
use Rattle.std.proofs.lemmas.Result.{IfOk-from_err}
use Rattle.witness_key.specs.WitnessKey.{combinations_in}
use Rattle.proof_model.specs.Writing.{answer_text}
use Rattle.bound_query.proofs.Calls.{limit_below, limit_reached}
use Rattle.proof_write.proofs.Given.{ended_early, ended_text, listed_more, met_limit, met_text}
use Rattle.proof_write.proofs.answers.push_answers.Goals as goal

pub loop-given-preserved : goal.loop-given-preserved
loop-given-preserved g c =
    let query = c.args.query.now.query in
    let rest = g.E.Ranked.rest in
    let found = rw c.in-Some.is at c.in_ok-answer.ensures.found in
    listed_more (combinations_in query (rest c.args.engine.now)) c.loop-given._given
    (combinations_in query (rest c.loop-given.engine)) _ _ c.loop-given.invariant
    (take (length query.items) c.in-Some.answer.rows) (combinations_in query (rest c.next.new.self)) _
    (ap (combinations_in query) found)
    (c.in_ok-push_answer.ensures.appended
    ∙ ap (λ k. c.loop-given.text.items ++ answer_text (take k c.in-Some.answer.rows)) c.items-items.ensures.items)

pub returns-in_default : goal.returns-in_default
returns-in_default g c =
    let query = c.args.query.now.query in
    let rest = g.E.Ranked.rest in
    let all = combinations_in query (rest c.args.engine.now) in
    let left = combinations_in query (rest c.loop-given.engine) in
    let low = limit_below query.limit c.loop-given._given _ _
    (rw c.limit.ensures at c.unwrap_or-most.ensures) c.loop-given-test.true in
    let ended = ap (combinations_in query) (rw c.in_default.is at c.in_ok-answer.ensures.end).0 in
    record {
      appended = ended_text all c.loop-given._given left _ _ c.loop-given.invariant ended query.limit low;
      ended = ended_early all c.loop-given._given left _ _ c.loop-given.invariant ended query.limit low;
    }

pub returns : goal.returns
returns g c =
    let query = c.args.query.now.query in
    let rest = g.E.Ranked.rest in
    let all = combinations_in query (rest c.args.engine.now) in
    let left = combinations_in query (rest c.loop-given.engine) in
    let reached = limit_reached query.limit c.loop-given._given _ _ (rw c.limit.ensures at c.unwrap_or-most.ensures)
    (rw c.limit-2.ensures at c.if-is_none.ensures)
    c.loop-given-test.false c.loop-given.auto._given-end in
    record {
      appended = met_text all c.loop-given._given left _ _ c.loop-given.invariant query.limit reached;
      ended = met_limit all c.loop-given._given left _ _ c.loop-given.invariant query.limit reached;
    }

pub returns-in_err-answer : goal.returns-in_err-answer
returns-in_err-answer g c = record {
  appended = IfOk-from_err c.from_residual.result _ c.from_residual.ensures.0;
  ended = IfOk-from_err c.from_residual.result _ c.from_residual.ensures.0;
}

pub returns-in_err-push_answer : goal.returns-in_err-push_answer
returns-in_err-push_answer g c = record {
  appended = IfOk-from_err c.from_residual-in_err-push_answer.result _ c.from_residual-in_err-push_answer.ensures.0;
  ended = IfOk-from_err c.from_residual-in_err-push_answer.result _ c.from_residual-in_err-push_answer.ensures.0;
}

pub returns-then-is_none : goal.returns-then-is_none
returns-then-is_none g c = record { appended = tt; ended = tt }
