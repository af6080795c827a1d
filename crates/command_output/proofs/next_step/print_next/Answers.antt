use Rattle.std.proofs.Common.{◌+◌, ◌-◌, ◌≤◌, ◌++◌, [], ℕ, List, Option, None, Ok, length, drop, take, ap, sym, refl, subst, ◌∙◌}
use Rattle.std.specs.Prelude.{codes, slice_get, slice_set}
use Rattle.std.proofs.lemmas.List.{set-get_or}
use Rattle.std.proofs.lemmas.Result.{IfOk-from_err}
use Rattle.anyk_model.specs.Query.{IsCombination, row_counts}
use Rattle.outer_io.specs.declared.fault.PrintFault.TheVariants as fault
use Rattle.outer_io.specs.Printing.{Printed}
use Rattle.outer_io.specs.SinkState.{state_of}
use Rattle.output_model.specs.Session.{next_text}
use Rattle.output_model.specs.SessionPieces.{next_pieces}
use Rattle.outer_io.proofs.Prints.{appends_nothing}
use Rattle.tdp_core.specs.AnswerView.{AnswerView}
use Rattle.anyk_model.specs.Output.{cut}
use Rattle.command_output.specs.SessionCosts.{KeepsSessionCost, Spent, calls_at}
use Rattle.command_output.proofs.Limits.{told_below}
use Rattle.command_output.specs.SessionListing.{line_in, members_in, ranking_in}
use Rattle.command_output.proofs.Follows.{always, answer_given, answer_inside, answers_ended, ending_left, given_all, given_less, next_done, next_start, pieces_given, place_set, places_set, told_all}
use Rattle.tdp_core.proofs.OptionFacts.{at_none, at_some}
use Rattle.command_output.proofs.SessionCosts.{paid_spent, spent_places}
use Rattle.command_output.proofs.Reach.{HasGiven, given_done, given_more, given_spent, given_within}
use Rattle.command_output.proofs.Spending.{all_were, at_most_one, moved_to, next_place, none_given, none_most, none_over, stands_at}
use Rattle.command_output.proofs.Left.{HasLeft, left_last, left_more, left_none, left_stopped, left_unprinted, left_whole}
use Rattle.command_output.proofs.Pieces.{HasPieces, paced_call, paced_end, pieces_one, pieces_whole}
use Rattle.command_output.proofs.next_step.print_next.Given.{Over}
use Rattle.command_output.proofs.next_step.print_next.Goals.{At-loop-given}
use Rattle.outer_io.proofs.HandedOn.{handed_on}
use Rattle.command_output.proofs.next_step.print_next.Goals as goal

-- # What the proofs share

module _ (g : Over) (c : At-loop-given g) where
  -- the combination that an answer stands for
  abbrev rows_of : AnswerView → List ℕ
  rows_of a = take (length c.args.listing.now.query.now.query.items) a.rows

  -- the list, and its members within the limit
  abbrev ranking : List (List ℕ)
  ranking = ranking_in c.args.listing.now c.args.set.now.answers

  abbrev members : List (List ℕ)
  members = members_in c.args.listing.now c.args.set.now.answers

  -- what is printed of a member, and at the end
  abbrev line : List ℕ → List ℕ
  line = line_in c.args.listing.now c.args.name.now

  abbrev ending : List ℕ
  ending = c.args.name.now ++ codes "\n"

  -- the whole text, and what is left of it
  abbrev whole : List ℕ
  whole = next_text line ending (drop c.args.place.now members) c.args.count

  abbrev left : List ℕ
  left = next_text line ending (drop (c.args.place.now + c.loop-given._given) members) (c.args.count - c.loop-given._given)

  -- its pieces, and those that are left
  abbrev pieces : List (List ℕ)
  pieces = next_pieces line ending (drop c.args.place.now members) c.args.count

  abbrev pieces_left : List (List ℕ)
  pieces_left = next_pieces line ending (drop (c.args.place.now + c.loop-given._given) members) (c.args.count - c.loop-given._given)

  -- the members that were given, and their cost
  given : HasGiven g.E.Ranked.share c.args.listing.now.query.now.query.limit ranking c.args.place.now c.loop-given._given c.args.count c.loop-given.place
      c.args.set.now c.loop-given.set c.args.steps.now c.loop-given.steps
  given = record {
    rises = g.met.E.Ranked.share_rises;
    is = c.loop-given.invariant.place;
    within = c.loop-given.invariant.within;
    spent = c.loop-given.invariant.spent;
  }

pub loop-given-init : goal.loop-given-init
loop-given-init g c =
    let members = members_in c.args.listing.now c.args.set.now.answers in
    let line = line_in c.args.listing.now c.args.name.now in
    let ending = c.args.name.now ++ codes "\n" in
    let start = c.args.place.now in
    let whole = next_text line ending (drop start members) c.args.count in
    let pieces = next_pieces line ending (drop start members) c.args.count in
    record {
      place = none_given _;
      within = none_most _;
      answers = refl;
      places = sym (set-get_or c.args.set.now.places c.args.id.number None) ∙ ap (λ p. slice_set c.args.set.now.places c.args.id.number p) c.requires.here;
      here = c.requires.here;
      left = next_start (λ p n. HasLeft whole (next_text line ending (drop p members) n) (state_of g.S.Sink c.args.out.now) (state_of g.S.Sink c.args.out.now))
          start c.args.count (left_whole whole (state_of g.S.Sink c.args.out.now));
      pieces = next_start (λ p n. HasPieces pieces (next_pieces line ending (drop p members) n) 0 (g.S.Sink.written c.args.out.now) (g.S.Sink.written c.args.out.now))
          start c.args.count (pieces_whole pieces (g.S.Sink.written c.args.out.now));
      spent = spent_places g.E.Ranked.share g.met.E.Ranked.share_rises c.args.set.now c.args.set.now (start + 0) 0 c.args.steps.now c.args.steps.now refl (at_most_one _ _);
    }

pub returns-in_default : goal.returns-in_default
returns-in_default g c =
    let loop = (goal.at.returns-in_default g c).At-loop-given in
    let start = c.args.place.now in let done = c.loop-given._given in
    let ended = at_none _ _ c.in_default.is c.in_ok-answer.ensures.end in
    let short = answers_ended (rows_of g loop) c.args.listing.now.query.now.query.limit c.args.set.now.answers start done c.loop-given.place c.loop-given.invariant.place
    (subst (λ (l : List AnswerView). length (cut c.args.listing.now.query.now.query.limit l) ≤ c.loop-given.place) c.loop-given.invariant.answers
    (subst (λ (o : Option ℕ). length (cut o c.loop-given.set.answers) ≤ c.loop-given.place) c.limit.ensures ended.1)) in
    record {
      printed =
          let last = ending_left (line g loop) (ending g loop) (members g loop) start done c.args.count short c.loop-given-test.true in
          let P : List ℕ → Type 0 = λ text. Printed (state_of g.S.Sink c.loop-given.out) (state_of g.S.Sink c.print_end.new.out) text c.print_end.result in
          left_last (whole g loop) (left g loop) _ _ _ c.loop-given.invariant.left c.print_end.result (subst P (sym last) c.print_end.ensures);
      moved =
          let all = given_less (members g loop) start done c.args.count c.loop-given.invariant.within c.loop-given-test.true short in
          always c.print_end.result (moved_to _ _ _ _ _ c.loop-given.invariant.place ended.0 all);
      places =
          always c.print_end.result
          (places_set c.args.set.now.places c.loop-given.set.places c.next_member.new.set.places c.args.id.number c.loop-given.place c.next_member.new.place
          c.loop-given.invariant.places c.in_ok-answer.ensures.places);
      kept = always c.print_end.result (c.in_ok-answer.ensures.kept ∙ c.loop-given.invariant.answers);
      paid =
          paid_spent g.E.Ranked.share g.met.E.Ranked.share_rises c.args.set.now c.next_member.new.set _ _ c.args.steps.now c.next_member.new.steps c.print_end.result
          (given_spent (given g loop) c.next_member.new.set c.next_member.new.steps c.loop-given-test.true (subst
          (λ (o : Option ℕ). Spent g.E.Ranked.share c.loop-given.set c.next_member.new.set (c.loop-given.place + calls_at o c.loop-given.place) (calls_at o c.loop-given.place) c.loop-given.steps c.next_member.new.steps)
          c.limit.ensures c.in_ok-answer.ensures.paid.spent));
      paced =
          let part = c.print_end.ensures.prefix in
          paced_call g.E.Ranked.share g.met.E.Ranked.share_rises c.loop-given.invariant.pieces c.loop-given.invariant.spent _ part.0 c.next_member.new.steps c.next_member.ensures.once part.1;
    }

pub print_answer-requires-clause-rows : goal.print_answer-requires-clause-rows
print_answer-requires-clause-rows g c =
    let query = c.args.listing.now.query.now.query in
    let found = at_some _ _ _ c.in-Some.is c.in_ok-answer.ensures.some in
    let at_place = ap (λ (l : List AnswerView). slice_get l c.loop-given.place) (sym c.loop-given.invariant.answers) ∙ found.2 in
    told_all (λ (a : AnswerView). IsCombination (row_counts query.items c.args.listing.now.tables.now) (take (length query.items) a.rows)) c.args.set.now.answers
    c.loop-given.place _ c.requires.rows at_place

pub loop-given-preserved : goal.loop-given-preserved
loop-given-preserved g c =
    let loop = (goal.at.loop-given-preserved g c).At-loop-given in
    let limit = c.args.listing.now.query.now.query.limit in let start = c.args.place.now in
    let done = c.loop-given._given in let place = c.loop-given.place in
    let at = c.loop-given.invariant.place in
    let found = at_some _ _ _ c.in-Some.is c.in_ok-answer.ensures.some in
    let below = told_below _ c.args.listing.now.query.now.query.limit c.loop-given.place c.limit.ensures found.0 in
    let here = ap (λ (l : List AnswerView). slice_get l c.loop-given.place) (sym c.loop-given.invariant.answers) ∙ found.2 in
    let split = answer_given (rows_of g loop) limit c.args.set.now.answers start done place at (line g loop) (ending g loop) c.args.count _
    c.loop-given-test.true below here in
    let piece = pieces_given (rows_of g loop) limit c.args.set.now.answers start done place at (line g loop) (ending g loop) c.args.count _
    c.loop-given-test.true below here in
    let printed = c.in_ok-print_answer.ensures in
    record {
      place = next_place _ _ _ _ at found.1;
      within = answer_inside (rows_of g loop) limit c.args.set.now.answers start done place at _ below here;
      answers = c.in_ok-answer.ensures.kept ∙ c.loop-given.invariant.answers;
      places = places_set c.args.set.now.places c.loop-given.set.places c.next_member.new.set.places c.args.id.number place c.next_member.new.place
          c.loop-given.invariant.places c.in_ok-answer.ensures.places;
      here = place_set c.loop-given.set.places c.next_member.new.set.places c.args.id.number place c.next_member.new.place c.loop-given.invariant.here
          c.in_ok-answer.ensures.places;
      left = left_more (whole g loop) (left g loop) (state_of g.S.Sink c.args.out.now) (state_of g.S.Sink c.loop-given.out) (state_of g.S.Sink c.print_answer.new.out) c.loop-given.invariant.left _ _ split printed.whole printed.later;
      pieces = pieces_one (pieces g loop) (pieces_left g loop) _ _ done (g.S.Sink.written c.args.out.now) (g.S.Sink.written c.loop-given.out) (g.S.Sink.written c.print_answer.new.out)
          piece c.loop-given.invariant.pieces printed.whole;
      spent = given_more (given g loop) c.next_member.new.set c.next_member.new.steps below (subst
          (λ (o : Option ℕ). Spent g.E.Ranked.share c.loop-given.set c.next_member.new.set (c.loop-given.place + calls_at o c.loop-given.place) (calls_at o c.loop-given.place) c.loop-given.steps c.next_member.new.steps)
          c.limit.ensures c.in_ok-answer.ensures.paid.spent);
    }

pub returns : goal.returns
returns g c =
    let loop = (goal.at.returns g c).At-loop-given in
    let start = c.args.place.now in let done = c.loop-given._given in
    let all = given_all (members g loop) c.args.place.now c.loop-given._given c.args.count c.loop-given.invariant.within (all_were _ _ c.loop-given.auto._given-end c.loop-given-test.false) in
    record {
      printed =
          left_none (whole g loop) (left g loop) _ _ c.loop-given.invariant.left
          (next_done (line g loop) (ending g loop) (members g loop) (start + done) (c.args.count - done) (none_over _ _ c.loop-given-test.false));
      moved = stands_at _ _ _ _ c.loop-given.invariant.place all;
      places = c.loop-given.invariant.places;
      kept = c.loop-given.invariant.answers;
      paid =
          paid_spent g.E.Ranked.share g.met.E.Ranked.share_rises c.args.set.now c.loop-given.set _ _ c.args.steps.now c.loop-given.steps (Ok tt)
          (given_done (given g loop) c.loop-given.auto._given-end);
      paced = paced_end g.E.Ranked.share g.met.E.Ranked.share_rises c.loop-given.invariant.pieces c.loop-given.invariant.spent;
    }

pub print_answer-requires-clause-fits : goal.print_answer-requires-clause-fits
print_answer-requires-clause-fits g c = c.requires.fits

pub returns-in_err-answer : goal.returns-in_err-answer
returns-in_err-answer g c =
    let loop = (goal.at.returns-in_err-answer g c).At-loop-given in
    record {
      printed = handed_on (Printed _ _ _) c.from_residual.result fault.NoMemory c.from_residual.ensures.1 (left_unprinted _ _ _ _ c.loop-given.invariant.left);
      moved = IfOk-from_err c.from_residual.result _ c.from_residual.ensures.0;
      places = IfOk-from_err c.from_residual.result _ c.from_residual.ensures.0;
      kept = IfOk-from_err c.from_residual.result _ c.from_residual.ensures.0;
      paid = record {
        spent = IfOk-from_err c.from_residual.result _ c.from_residual.ensures.0;
        within = given_within (given g loop) c.next_member.new.steps c.loop-given-test.true (subst
            (λ (o : Option ℕ). KeepsSessionCost g.E.Ranked.share c.loop-given.set (c.loop-given.place + calls_at o c.loop-given.place) (calls_at o c.loop-given.place) c.loop-given.steps c.next_member.new.steps)
            c.limit.ensures c.in_err-answer.ensures.paid.within);
      };
      paced = paced_call g.E.Ranked.share g.met.E.Ranked.share_rises c.loop-given.invariant.pieces c.loop-given.invariant.spent _ [] c.next_member.new.steps c.next_member.ensures.once
          (appends_nothing _);
    }

pub returns-in_err-print_answer : goal.returns-in_err-print_answer
returns-in_err-print_answer g c =
    let loop = (goal.at.returns-in_err-print_answer g c).At-loop-given in
    let found = at_some _ _ _ c.in-Some.is c.in_ok-answer.ensures.some in
    let split = answer_given (rows_of g loop) c.args.listing.now.query.now.query.limit c.args.set.now.answers c.args.place.now c.loop-given._given c.loop-given.place
    c.loop-given.invariant.place (line g loop) (ending g loop) c.args.count _ c.loop-given-test.true (told_below _ c.args.listing.now.query.now.query.limit c.loop-given.place c.limit.ensures found.0) (ap (λ (l : List AnswerView). slice_get l c.loop-given.place) (sym c.loop-given.invariant.answers) ∙ found.2) in
    record {
      printed = handed_on (Printed _ _ _) c.from_residual-in_err-print_answer.result _ c.from_residual-in_err-print_answer.ensures.1
          (left_stopped (whole g loop) (left g loop) _ _ _ c.loop-given.invariant.left _ _ _ split c.in_err-print_answer.ensures);
      moved = IfOk-from_err c.from_residual-in_err-print_answer.result _ c.from_residual-in_err-print_answer.ensures.0;
      places = IfOk-from_err c.from_residual-in_err-print_answer.result _ c.from_residual-in_err-print_answer.ensures.0;
      kept = IfOk-from_err c.from_residual-in_err-print_answer.result _ c.from_residual-in_err-print_answer.ensures.0;
      paid = paid_spent g.E.Ranked.share g.met.E.Ranked.share_rises c.args.set.now c.next_member.new.set _ _ c.args.steps.now c.next_member.new.steps
          c.from_residual-in_err-print_answer.result
          (given_spent (given g loop) c.next_member.new.set c.next_member.new.steps c.loop-given-test.true (subst
          (λ (o : Option ℕ). Spent g.E.Ranked.share c.loop-given.set c.next_member.new.set (c.loop-given.place + calls_at o c.loop-given.place) (calls_at o c.loop-given.place) c.loop-given.steps c.next_member.new.steps)
          c.limit.ensures c.in_ok-answer.ensures.paid.spent));
      paced =
          let part = c.print_answer.ensures.prefix in
          paced_call g.E.Ranked.share g.met.E.Ranked.share_rises c.loop-given.invariant.pieces c.loop-given.invariant.spent _ part.0 c.next_member.new.steps c.next_member.ensures.once part.1;
    }
