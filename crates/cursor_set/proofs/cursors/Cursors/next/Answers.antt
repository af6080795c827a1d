use Rattle.std.proofs.Common.{◌≡◌, ◌+◌, ◌≤◌, true, length, refl, sym, ap, ◌∙◌, subst}
use Rattle.std.proofs.lemmas.Bool.{false≢true}
use Rattle.tdp_core.specs.declared.ranked.Answer.{Answer}
use Rattle.tdp_core.specs.AnswerView.{AnswerView, counted}
use Rattle.tdp_model.specs.KeyNumbers.{numbers}
use Rattle.cursor_set.specs.CursorSet.{CursorSet, ArePlacesKnown, seen_of}
use Rattle.cursor_set.proofs.CursorMoves.{not_open, end_there, places_more, places_set, place_within, found_at, next_at, next_fits, one_longer, as_long, answers_pushed, answers_same, all_found, moved_only, at_most_same, seen_more, steps_more, steps_over, steps_within, some_at, refused_there, not_known_there}
use Rattle.tdp_core.proofs.OptionFacts.{at_none, at_some}
use Rattle.cursor_set.proofs.Counting.{among_found, at_end_of, behind_found, grown, next_found, no_less, past_found, seen_end, seen_next, seen_same}
use Rattle.cursor_set.proofs.cursors.Cursors.next.Given.{Over}
use Rattle.cursor_set.proofs.cursors.Cursors.next.Goals as goal

abbrev seen : (g : Over) → Answer g.row.E-Key.Denot → AnswerView
seen g a = record { rows = a.rows; key = numbers g.E.Key.Rank.KEYS 16 (g.E.Key.Rank.key a.rank) }

-- # The cursor is not open

pub returns-in_default : goal.returns-in_default
returns-in_default g c =
    record {
      some = tt;
      end = tt;
      refused = ((refl, not_open _ _ c.args.id.number c.self.view_is c.in_default.not-Some), refl);
      counted = refl;
      kept = record { answers = refl; known = at_most_same c.args.self.now.known; ended = λ h. h; size = refl };
      within = subst ArePlacesKnown c.self.view_is c.self.invariant.1;
      known = λ _. (refl, steps_more c.args.steps.now 4);
      grown = steps_more (seen_of c.args.self.now) 1;
      calls = steps_more c.args.self.now.calls 1;
      cost = steps_over c.args.steps.now c.args.self.now.due 4;
      share = steps_over c.args.steps.now (g.E.Ranked.share c.args.self.now.size c.args.self.now.calls) 4;
    }

-- # The answer was found before

pub invariant_of-self : goal.invariant_of-self
invariant_of-self g c =
    (c.self.invariant.0, places_set c.self.inside.places c.args.id.number c.self.inside.found.len c.self.inside.found.len (c.in-Some.place + 1) (at_most_same c.self.inside.found.len) (past_found c.in-Some.place c.len.result c.self.inside.found.len c.if-place-len.true c.len.ensures) c.self.invariant.1)

pub returns-then-place-len : goal.returns-then-place-len
returns-then-place-len g c =
    record {
      some = some_at _ _ c.args.id.number c.in-Some.place c.self.inside.found.len _ (seen g c.index.result.now) c.self.view_is c.in-Some.is (found_at (seen g) c.self.inside.found.items (g.E.Ranked.rest c.self.inside.engine) c.in-Some.place c.index.result.now (among_found c.in-Some.place c.len.result c.self.inside.found.len (length c.self.inside.found.items) c.if-place-len.true c.len.ensures c.self.inside.found.ok.0) c.index.ensures) refl (past_found c.in-Some.place c.len.result c.self.inside.found.len c.if-place-len.true c.len.ensures);
      end = tt;
      refused = tt;
      counted = ap (λ (s : CursorSet). s.refused) c.self.view_is;
      kept =
          record {
            answers = ap (λ (s : CursorSet). s.answers) c.self.view_is;
            known = subst (λ (s : CursorSet). s.known ≤ c.self.inside.found.len) c.self.view_is (at_most_same c.self.inside.found.len);
            ended = λ h. ap (λ (s : CursorSet). s.ended) c.self.view_is ∙ h;
            size = ap (λ (s : CursorSet). s.size) c.self.view_is;
          };
      within = places_set c.self.inside.places c.args.id.number c.self.inside.found.len c.self.inside.found.len (c.in-Some.place + 1) (at_most_same c.self.inside.found.len) (past_found c.in-Some.place c.len.result c.self.inside.found.len c.if-place-len.true c.len.ensures) c.self.invariant.1;
      known = λ _. (moved_only _ _ _ c.self.view_is refl, steps_more c.args.steps.now 4);
      grown = seen_more _ _ c.self.inside.found.len c.self.inside.ended c.self.view_is (steps_more _ 1);
      calls = subst (λ (s : CursorSet). g.E.Ranked.calls c.self.inside.engine ≤ s.calls + 1) c.self.view_is (steps_more _ 1);
      cost = steps_over c.args.steps.now c.args.self.now.due 4;
      share = steps_over c.args.steps.now (g.E.Ranked.share c.args.self.now.size c.args.self.now.calls) 4;
    }

-- # The end was seen before

pub returns-then-self : goal.returns-then-self
returns-then-self g c =
    record {
      some = tt;
      end = (end_there _ _ c.args.id.number c.in-Some.place c.self.inside.found.len c.self.view_is c.in-Some.is (sym (at_end_of c.in-Some.place c.len.result c.self.inside.found.len c.if-place-len.false c.len.ensures (place_within c.self.inside.places c.args.id.number c.self.inside.found.len c.in-Some.place c.self.invariant.1 c.in-Some.is))) (all_found (seen g) c.self.inside.found.items (g.E.Ranked.rest c.self.inside.engine) (c.self.invariant.0 c.if-self.true) ∙ sym c.self.inside.found.ok.0), refl, ap (λ (s : CursorSet). s.ended) (sym c.self.view_is) ∙ c.if-self.true);
      refused = tt;
      counted = refl;
      kept = record { answers = refl; known = at_most_same c.args.self.now.known; ended = λ h. h; size = refl };
      within = subst ArePlacesKnown c.self.view_is c.self.invariant.1;
      known = λ _. (refl, steps_more c.args.steps.now 4);
      grown = steps_more (seen_of c.args.self.now) 1;
      calls = steps_more c.args.self.now.calls 1;
      cost = steps_over c.args.steps.now c.args.self.now.due 4;
      share = steps_over c.args.steps.now (g.E.Ranked.share c.args.self.now.size c.args.self.now.calls) 4;
    }

-- # One more answer was found

pub invariant_of-self-in-Ok-Some : goal.invariant_of-self-in-Ok-Some
invariant_of-self-in-Ok-Some g c =
    let f = at_some _ c.in-Ok-Some.field-0 c.in-Ok-Some.answer c.in-Ok-Some.field-0-is c.in-Ok-Some.ensures.found in
    let long : c.fetch.new.found.len ≡ c.self.inside.found.len + 1 = one_longer c.self.inside.found.items c.fetch.new.found.items c.in-Ok-Some.answer c.self.inside.found.len c.fetch.new.found.len c.self.inside.found.ok.0 c.fetch.new.found.ok.0 f.0 in
    let at : c.in-Some.place ≡ c.self.inside.found.len = at_end_of c.in-Some.place c.len.result c.self.inside.found.len c.if-place-len.false c.len.ensures (place_within c.self.inside.places c.args.id.number c.self.inside.found.len c.in-Some.place c.self.invariant.1 c.in-Some.is) in
    (λ t. absurd (false≢true (sym c.if-self.false ∙ t)), places_set c.self.inside.places c.args.id.number c.self.inside.found.len c.fetch.new.found.len (c.in-Some.place + 1) (grown c.self.inside.found.len c.fetch.new.found.len long) (next_found c.in-Some.place c.self.inside.found.len c.fetch.new.found.len at long) c.self.invariant.1)

pub overflow_add-self-in-Ok-Some : goal.overflow_add-self-in-Ok-Some
overflow_add-self-in-Ok-Some g c =
    let f = at_some _ c.in-Ok-Some.field-0 c.in-Ok-Some.answer c.in-Ok-Some.field-0-is c.in-Ok-Some.ensures.found in
    let long : c.fetch.new.found.len ≡ c.self.inside.found.len + 1 = one_longer c.self.inside.found.items c.fetch.new.found.items c.in-Ok-Some.answer c.self.inside.found.len c.fetch.new.found.len c.self.inside.found.ok.0 c.fetch.new.found.ok.0 f.0 in
    let at : c.in-Some.place ≡ c.self.inside.found.len = at_end_of c.in-Some.place c.len.result c.self.inside.found.len c.if-place-len.false c.len.ensures (place_within c.self.inside.places c.args.id.number c.self.inside.found.len c.in-Some.place c.self.invariant.1 c.in-Some.is) in
    next_fits c.fetch.new.found c.in-Some.place (next_found c.in-Some.place c.self.inside.found.len c.fetch.new.found.len at long)

pub returns-in-Ok-Some : goal.returns-in-Ok-Some
returns-in-Ok-Some g c =
    let f = at_some _ c.in-Ok-Some.field-0 c.in-Ok-Some.answer c.in-Ok-Some.field-0-is c.in-Ok-Some.ensures.found in
    let long : c.fetch.new.found.len ≡ c.self.inside.found.len + 1 = one_longer c.self.inside.found.items c.fetch.new.found.items c.in-Ok-Some.answer c.self.inside.found.len c.fetch.new.found.len c.self.inside.found.ok.0 c.fetch.new.found.ok.0 f.0 in
    let at : c.in-Some.place ≡ c.self.inside.found.len = at_end_of c.in-Some.place c.len.result c.self.inside.found.len c.if-place-len.false c.len.ensures (place_within c.self.inside.places c.args.id.number c.self.inside.found.len c.in-Some.place c.self.invariant.1 c.in-Some.is) in
    record {
      some = some_at _ _ c.args.id.number c.in-Some.place c.fetch.new.found.len _ (seen g c.in-Ok-Some.answer) c.self.view_is c.in-Some.is (next_at (seen g) c.self.inside.found.items (g.E.Ranked.rest c.self.inside.engine) (g.E.Ranked.rest c.fetch.new.engine) c.in-Some.place (seen g c.in-Ok-Some.answer) (at ∙ c.self.inside.found.ok.0) f.1) refl (next_found c.in-Some.place c.self.inside.found.len c.fetch.new.found.len at long);
      end = tt;
      refused = tt;
      counted = ap (λ (s : CursorSet). s.refused) c.self.view_is;
      kept =
          record {
            answers = answers_pushed (seen g) c.self.inside.found.items c.fetch.new.found.items c.in-Ok-Some.answer (g.E.Ranked.rest c.self.inside.engine) (g.E.Ranked.rest c.fetch.new.engine) f.0 f.1 ∙ ap (λ (s : CursorSet). s.answers) c.self.view_is;
            known = subst (λ (s : CursorSet). s.known ≤ c.fetch.new.found.len) c.self.view_is (grown c.self.inside.found.len c.fetch.new.found.len long);
            ended = λ h. ap (λ (s : CursorSet). s.ended) c.self.view_is ∙ h;
            size = c.fetch.ensures.size ∙ ap (λ (s : CursorSet). s.size) c.self.view_is;
          };
      within = places_set c.self.inside.places c.args.id.number c.self.inside.found.len c.fetch.new.found.len (c.in-Some.place + 1) (grown c.self.inside.found.len c.fetch.new.found.len long) (next_found c.in-Some.place c.self.inside.found.len c.fetch.new.found.len at long) c.self.invariant.1;
      known = λ k. absurd (not_known_there _ _ c.args.id.number c.in-Some.place c.self.view_is c.in-Some.is (behind_found c.in-Some.place c.len.result c.self.inside.found.len c.if-place-len.false c.len.ensures) c.if-self.false k);
      grown = seen_more _ _ c.fetch.new.found.len c.self.inside.ended c.self.view_is (seen_next c.self.inside.found.len c.fetch.new.found.len _ long);
      calls = subst (λ (s : CursorSet). g.E.Ranked.calls c.fetch.new.engine ≤ s.calls + 1) c.self.view_is (c.fetch.ensures.calls);
      cost = subst (λ (s : CursorSet). c.fetch.new.steps ≤ c.args.steps.now + s.due + 4) c.self.view_is (steps_within _ _ 4 c.fetch.ensures.cost);
      share = subst (λ (s : CursorSet). c.fetch.new.steps ≤ c.args.steps.now + g.E.Ranked.share s.size s.calls + 4) c.self.view_is (steps_within _ _ 4 c.fetch.ensures.share);
    }

-- # The end was met

pub invariant_of-self-in-Ok-None : goal.invariant_of-self-in-Ok-None
invariant_of-self-in-Ok-None g c =
    let f = at_none _ c.in-Ok-None.field-0 c.in-Ok-None.field-0-is c.in-Ok-None.ensures.end in
    let long : c.fetch.new.found.len ≡ c.self.inside.found.len = as_long c.self.inside.found.items c.fetch.new.found.items c.self.inside.found.len c.fetch.new.found.len c.self.inside.found.ok.0 c.fetch.new.found.ok.0 f.0 in
    (λ _. f.2, places_more c.self.inside.places c.self.inside.found.len c.fetch.new.found.len (no_less c.self.inside.found.len c.fetch.new.found.len long) c.self.invariant.1)

pub returns-in-Ok-None : goal.returns-in-Ok-None
returns-in-Ok-None g c =
    let f = at_none _ c.in-Ok-None.field-0 c.in-Ok-None.field-0-is c.in-Ok-None.ensures.end in
    let at : c.in-Some.place ≡ c.self.inside.found.len = at_end_of c.in-Some.place c.len.result c.self.inside.found.len c.if-place-len.false c.len.ensures (place_within c.self.inside.places c.args.id.number c.self.inside.found.len c.in-Some.place c.self.invariant.1 c.in-Some.is) in
    let long : c.fetch.new.found.len ≡ c.self.inside.found.len = as_long c.self.inside.found.items c.fetch.new.found.items c.self.inside.found.len c.fetch.new.found.len c.self.inside.found.ok.0 c.fetch.new.found.ok.0 f.0 in
    record {
      some = tt;
      end = (end_there _ _ c.args.id.number c.in-Some.place c.self.inside.found.len c.self.view_is c.in-Some.is (sym at) (all_found (seen g) c.self.inside.found.items (g.E.Ranked.rest c.self.inside.engine) f.1 ∙ sym c.self.inside.found.ok.0), ap (λ (s : CursorSet). s.places) c.self.view_is, refl);
      refused = tt;
      counted = ap (λ (s : CursorSet). s.refused) c.self.view_is;
      kept =
          record {
            answers = answers_same (seen g) c.self.inside.found.items c.fetch.new.found.items (g.E.Ranked.rest c.self.inside.engine) (g.E.Ranked.rest c.fetch.new.engine) f.0 (f.2 ∙ sym f.1) ∙ ap (λ (s : CursorSet). s.answers) c.self.view_is;
            known = subst (λ (s : CursorSet). s.known ≤ c.fetch.new.found.len) c.self.view_is (no_less c.self.inside.found.len c.fetch.new.found.len long);
            ended = λ _. refl;
            size = c.fetch.ensures.size ∙ ap (λ (s : CursorSet). s.size) c.self.view_is;
          };
      within = places_more c.self.inside.places c.self.inside.found.len c.fetch.new.found.len (no_less c.self.inside.found.len c.fetch.new.found.len long) c.self.invariant.1;
      known = λ k. absurd (not_known_there _ _ c.args.id.number c.in-Some.place c.self.view_is c.in-Some.is (behind_found c.in-Some.place c.len.result c.self.inside.found.len c.if-place-len.false c.len.ensures) c.if-self.false k);
      grown = seen_more _ _ c.fetch.new.found.len true c.self.view_is (seen_end c.self.inside.found.len c.fetch.new.found.len _ long);
      calls = subst (λ (s : CursorSet). g.E.Ranked.calls c.fetch.new.engine ≤ s.calls + 1) c.self.view_is (c.fetch.ensures.calls);
      cost = subst (λ (s : CursorSet). c.fetch.new.steps ≤ c.args.steps.now + s.due + 4) c.self.view_is (steps_within _ _ 4 c.fetch.ensures.cost);
      share = subst (λ (s : CursorSet). c.fetch.new.steps ≤ c.args.steps.now + g.E.Ranked.share s.size s.calls + 4) c.self.view_is (steps_within _ _ 4 c.fetch.ensures.share);
    }

-- # Memory was refused

pub invariant_of-self-in-Err : goal.invariant_of-self-in-Err
invariant_of-self-in-Err g c =
    let long : c.fetch.new.found.len ≡ c.self.inside.found.len = as_long c.self.inside.found.items c.fetch.new.found.items c.self.inside.found.len c.fetch.new.found.len c.self.inside.found.ok.0 c.fetch.new.found.ok.0 c.in-Err.ensures.refused.0 in
    (λ t. absurd (false≢true (sym c.if-self.false ∙ t)), places_more c.self.inside.places c.self.inside.found.len c.fetch.new.found.len (no_less c.self.inside.found.len c.fetch.new.found.len long) c.self.invariant.1)

pub returns-in-Err : goal.returns-in-Err
returns-in-Err g c =
    let long : c.fetch.new.found.len ≡ c.self.inside.found.len = as_long c.self.inside.found.items c.fetch.new.found.items c.self.inside.found.len c.fetch.new.found.len c.self.inside.found.ok.0 c.fetch.new.found.ok.0 c.in-Err.ensures.refused.0 in
    record {
      some = tt;
      end = tt;
      refused = (refused_there _ _ c.args.id.number c.in-Some.place c.self.view_is c.in-Some.is (behind_found c.in-Some.place c.len.result c.self.inside.found.len c.if-place-len.false c.len.ensures) c.if-self.false, ap (λ (s : CursorSet). s.places) c.self.view_is);
      counted = c.saturating_add-self-inside.ensures ∙ ap (λ (s : CursorSet). counted s.refused) c.self.view_is;
      kept =
          record {
            answers = answers_same (seen g) c.self.inside.found.items c.fetch.new.found.items (g.E.Ranked.rest c.self.inside.engine) (g.E.Ranked.rest c.fetch.new.engine) c.in-Err.ensures.refused.0 c.in-Err.ensures.refused.1 ∙ ap (λ (s : CursorSet). s.answers) c.self.view_is;
            known = subst (λ (s : CursorSet). s.known ≤ c.fetch.new.found.len) c.self.view_is (no_less c.self.inside.found.len c.fetch.new.found.len long);
            ended = λ h. ap (λ (s : CursorSet). s.ended) c.self.view_is ∙ h;
            size = c.fetch.ensures.size ∙ ap (λ (s : CursorSet). s.size) c.self.view_is;
          };
      within = places_more c.self.inside.places c.self.inside.found.len c.fetch.new.found.len (no_less c.self.inside.found.len c.fetch.new.found.len long) c.self.invariant.1;
      known = λ k. absurd (not_known_there _ _ c.args.id.number c.in-Some.place c.self.view_is c.in-Some.is (behind_found c.in-Some.place c.len.result c.self.inside.found.len c.if-place-len.false c.len.ensures) c.if-self.false k);
      grown = seen_more _ _ c.fetch.new.found.len c.self.inside.ended c.self.view_is (seen_same c.self.inside.found.len c.fetch.new.found.len _ long);
      calls = subst (λ (s : CursorSet). g.E.Ranked.calls c.fetch.new.engine ≤ s.calls + 1) c.self.view_is (c.fetch.ensures.calls);
      cost = subst (λ (s : CursorSet). c.fetch.new.steps ≤ c.args.steps.now + s.due + 4) c.self.view_is (steps_within _ _ 4 c.fetch.ensures.cost);
      share = subst (λ (s : CursorSet). c.fetch.new.steps ≤ c.args.steps.now + g.E.Ranked.share s.size s.calls + 4) c.self.view_is (steps_within _ _ 4 c.fetch.ensures.share);
    }
