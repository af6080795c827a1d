use Rattle.std.proofs.Common.{[], length, take, ℕ, List}
use Rattle.anyk_model.specs.Output.{line_text}
use Rattle.anyk_model.specs.Query.{IsCombination, row_counts, Query}
use Rattle.tdp_core.specs.AnswerView.{AnswerView}
use Rattle.witness_key.specs.WitnessKey.{combinations_in}
use Rattle.outer_io.specs.declared.fault.PrintFault.TheVariants as fault
use Rattle.outer_io.specs.Printing.{Printed}
use Rattle.outer_io.specs.SinkState.{state_of}
use Rattle.outer_io.proofs.Prints.{appends_nothing}
use Rattle.bound_query.proofs.Calls.{called_more, counted_few}
use Rattle.answer_print.specs.StyleView.{style_view}
use Rattle.command_output.proofs.AnswerPacing.{paced_next, paced_same}
use Rattle.tdp_core.proofs.OptionFacts.{at_none, at_some}
use Rattle.command_output.proofs.Given.{cut_short, first_left, given_more, printed_all, printed_limit, stopped_short}
use Rattle.outer_io.proofs.HandedOn.{handed_on}
use Rattle.command_output.proofs.Limits.{below_limit, below_within, none_within, reached_limit, reached_within}
use Rattle.command_output.proofs.ranking.print_answers.Given.{Over}
use Rattle.command_output.proofs.ranking.print_answers.Goals.{At-loop-given}
use Rattle.command_output.proofs.ranking.print_answers.Goals as goal

module _ (g : Over) (c : At-loop-given g) where
  abbrev query : Query
  query = c.args.query.now.query

  -- an answer's combination, which is one of rows that are there, and its line
  abbrev seen : AnswerView → List ℕ
  seen a = take (length query.items) a.rows

  abbrev Seen : AnswerView → Type 0
  Seen a = IsCombination (row_counts query.items c.args.tables.now) (seen a)

  abbrev line : List ℕ → List ℕ
  line = line_text query c.args.tables.now (style_view c.args.style.now)

  -- what is to be printed
  abbrev list : List (List ℕ)
  list = combinations_in query (g.E.Ranked.rest c.args.engine.now)

pub returns-in_err-answer : goal.returns-in_err-answer
returns-in_err-answer g c =
    let at = (goal.at.returns-in_err-answer g c).At-loop-given in
    let below = below_limit _ c.args.query.now.query.limit c.loop-given._given _ _ c.limit.ensures c.unwrap_or-most.ensures c.loop-given-test.true in
    record {
      printed =
          handed_on (Printed _ _ _) c.from_residual.result fault.NoMemory c.from_residual.ensures.1
          (stopped_short (Seen g at) (line g at) (seen g at) (list g at) c.loop-given._given c.args.query.now.query.limit (g.E.Ranked.rest c.loop-given.engine) (state_of g.S.Sink c.args.out.now) (state_of g.S.Sink c.loop-given.out) (below_within c.args.query.now.query.limit c.loop-given._given below) c.loop-given.invariant.given);
      paced =
          paced_next g.E.Ranked.share g.met.E.Ranked.share_rises (Seen g at) (line g at) (seen g at) (list g at) c.args.query.now.query.limit c.loop-given._given c.loop-given.invariant _ _ below (g.met.E.Ranked.due_within c.loop-given.engine) c.next.ensures.cost _ []
          (appends_nothing _);
    }

pub returns-in_default : goal.returns-in_default
returns-in_default g c =
    let at = (goal.at.returns-in_default g c).At-loop-given in
    let below = below_limit _ c.args.query.now.query.limit c.loop-given._given _ _ c.limit.ensures c.unwrap_or-most.ensures c.loop-given-test.true in
    let ended = at_none _ _ c.in_default.is c.in_ok-answer.ensures.end in
    record {
      printed = printed_all (Seen g at) (line g at) (seen g at) (list g at) c.loop-given._given c.args.query.now.query.limit (g.E.Ranked.rest c.loop-given.engine) (state_of g.S.Sink c.args.out.now) (state_of g.S.Sink c.loop-given.out) (below_within c.args.query.now.query.limit c.loop-given._given below) ended.0 c.loop-given.invariant.given;
      paced =
          paced_next g.E.Ranked.share g.met.E.Ranked.share_rises (Seen g at) (line g at) (seen g at) (list g at) c.args.query.now.query.limit c.loop-given._given c.loop-given.invariant _ _ below (g.met.E.Ranked.due_within c.loop-given.engine) c.next.ensures.cost _ []
          (appends_nothing _);
    }

pub print_answer-requires-clause-rows : goal.print_answer-requires-clause-rows
print_answer-requires-clause-rows g c =
    let at = (goal.at.print_answer-requires-clause-rows g c).At-loop-given in
    first_left (Seen g at) (line g at) (seen g at) (list g at) c.loop-given._given _ _ _ c.loop-given.invariant.given.all (at_some _ _ _ c.in-Some.is c.in_ok-answer.ensures.found)

pub returns-in_err-print_answer : goal.returns-in_err-print_answer
returns-in_err-print_answer g c =
    let at = (goal.at.returns-in_err-print_answer g c).At-loop-given in
    let below = below_limit _ c.args.query.now.query.limit c.loop-given._given _ _ c.limit.ensures c.unwrap_or-most.ensures c.loop-given-test.true in
    let found = at_some _ _ _ c.in-Some.is c.in_ok-answer.ensures.found in
    let part = c.print_answer.ensures.prefix in
    record {
      printed =
          handed_on (Printed _ _ _) c.from_residual-in_err-print_answer.result c.in_err-print_answer.field-0.0 c.from_residual-in_err-print_answer.ensures.1
          (cut_short (Seen g at) (line g at) (seen g at) (list g at) c.loop-given._given [] _ (g.E.Ranked.rest c.loop-given.engine) (g.E.Ranked.rest c.next.new.self) c.loop-given.invariant.given.rest found c.args.query.now.query.limit (state_of g.S.Sink c.args.out.now) (state_of g.S.Sink c.loop-given.out) (state_of g.S.Sink c.print_answer.new.out) c.in_err-print_answer.field-0.0 below c.loop-given.invariant.given c.in_err-print_answer.ensures);
      paced =
          paced_next g.E.Ranked.share g.met.E.Ranked.share_rises (Seen g at) (line g at) (seen g at) (list g at) c.args.query.now.query.limit c.loop-given._given c.loop-given.invariant _ _ below (g.met.E.Ranked.due_within c.loop-given.engine) c.next.ensures.cost _ part.0
          part.1;
    }

pub loop-given-preserved : goal.loop-given-preserved
loop-given-preserved g c =
    let at = (goal.at.loop-given-preserved g c).At-loop-given in
    let found = at_some _ _ _ c.in-Some.is c.in_ok-answer.ensures.found in
    let printed = c.in_ok-print_answer.ensures in
    record {
      given = given_more (Seen g at) (line g at) (seen g at) (list g at) c.loop-given._given [] _ (g.E.Ranked.rest c.loop-given.engine) (g.E.Ranked.rest c.next.new.self) c.loop-given.invariant.given.rest found (state_of g.S.Sink c.args.out.now) (state_of g.S.Sink c.loop-given.out) (state_of g.S.Sink c.print_answer.new.out) c.loop-given.invariant.given printed.whole printed.later;
      called = called_more g.E.Ranked.share g.met.E.Ranked.share_rises (g.E.Ranked.size c.args.engine.now) (g.E.Ranked.calls c.args.engine.now) c.loop-given._given (g.E.Ranked.size c.loop-given.engine)
          (g.E.Ranked.size c.next.new.self) (g.E.Ranked.calls c.loop-given.engine) (g.E.Ranked.calls c.next.new.self) c.args.steps.now c.loop-given.steps c.next.new.steps (g.E.Ranked.due c.loop-given.engine)
          c.loop-given.invariant.called (g.met.E.Ranked.due_within c.loop-given.engine) c.next.ensures.cost
          (counted_few _ _ c.next.ensures.counted) c.next.ensures.size;
    }

pub returns-then-is_none : goal.returns-then-is_none
returns-then-is_none g c =
    let at = (goal.at.returns-then-is_none g c).At-loop-given in
    let low = none_within _ c.args.query.now.query.limit c.loop-given._given c.limit-2.ensures c.if-is_none.ensures in
    record {
      printed = stopped_short (Seen g at) (line g at) (seen g at) (list g at) c.loop-given._given c.args.query.now.query.limit (g.E.Ranked.rest c.loop-given.engine) (state_of g.S.Sink c.args.out.now) (state_of g.S.Sink c.loop-given.out) low c.loop-given.invariant.given;
      paced = paced_same g.E.Ranked.share g.met.E.Ranked.share_rises (Seen g at) (line g at) (seen g at) (list g at) c.args.query.now.query.limit c.loop-given._given c.loop-given.invariant low;
    }

pub returns : goal.returns
returns g c =
    let at = (goal.at.returns g c).At-loop-given in
    let reached = reached_limit _ _ c.args.query.now.query.limit c.loop-given._given _ _ c.limit.ensures c.limit-2.ensures c.unwrap_or-most.ensures c.if-is_none.ensures c.loop-given-test.false c.loop-given.auto._given-end in
    record {
      printed = printed_limit (Seen g at) (line g at) (seen g at) (list g at) c.loop-given._given c.args.query.now.query.limit (g.E.Ranked.rest c.loop-given.engine) (state_of g.S.Sink c.args.out.now) (state_of g.S.Sink c.loop-given.out) reached c.loop-given.invariant.given;
      paced = paced_same g.E.Ranked.share g.met.E.Ranked.share_rises (Seen g at) (line g at) (seen g at) (list g at) c.args.query.now.query.limit c.loop-given._given c.loop-given.invariant (reached_within c.args.query.now.query.limit c.loop-given._given reached);
    }
