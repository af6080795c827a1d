use Rattle.std.proofs.Common.{ℕ, ◌≡◌, ◌+◌, ◌≤◌, inl, inr, Some, None, Ok, ap, length, refl, sym, subst, ◌∙◌}
use Rattle.std.specs.Prelude.{slice_set}
use Rattle.anyk_model.specs.Output.{cut}
use Rattle.command_output.specs.SessionCosts.{KeepsSessionCost, Spent}
use Rattle.command_output.proofs.SessionCosts.{paid_spent, spent_call, spent_places, within_call, within_one, within_spent}
use Rattle.command_output.proofs.Spending.{at_most_more, at_most_one}
use Rattle.tdp_core.proofs.OptionFacts.{at_none, at_some}
use Rattle.command_output.proofs.Follows.{cut_ended, cut_short, place_kept, same_place_in}
use Rattle.command_output.proofs.Reach.{at_below, at_limit}
use Rattle.command_output.proofs.next_step.next_member.Goals as goal

pub returns-in-Ok-Some : goal.returns-in-Ok-Some
returns-in-Ok-Some g c =
    let given = rw c.requires at (at_some _ _ _ c.in-Ok-Some.field-0-is c.in-Ok-Some.ensures.some) in
    let place = c.args.place.now in
    record {
      some = (c.is_reached.ensures.within c.if-is_reached.false, c.in-Some.ensures.1, given.0);
      end = tt;
      places = given.1 ∙ ap (λ (n : ℕ). slice_set c.args.set.now.places c.args.id.number (Some n)) (sym c.in-Some.ensures.1);
      kept = c.next.ensures.kept.answers;
      paid =
          paid_spent g.E.Ranked.share g.met.E.Ranked.share_rises c.args.set.now c.next.new.self _ _ c.args.steps.now c.next.new.steps (Ok (Some c.in-Ok-Some.answer))
          (at_below (λ calls. Spent g.E.Ranked.share c.args.set.now c.next.new.self (place + calls) calls c.args.steps.now c.next.new.steps)
          c.args.limit place (c.is_reached.ensures.within c.if-is_reached.false)
          (spent_call g.E.Ranked.share g.met.E.Ranked.share_rises c.args.set.now c.next.new.self c.args.id.number place c.args.steps.now c.next.new.steps c.requires
          c.next.ensures.kept c.next.ensures.grown c.next.ensures.known c.next.ensures.calls c.next.ensures.share (inl given.2)));
      once = within_one g.E.Ranked.share g.met.E.Ranked.share_rises c.args.set.now c.next.new.self c.args.id.number place c.args.steps.now c.next.new.steps c.requires
          c.next.ensures.kept c.next.ensures.grown c.next.ensures.known c.next.ensures.calls c.next.ensures.share;
    }

pub returns-in-Ok-None : goal.returns-in-Ok-None
returns-in-Ok-None g c =
    let ended = at_none _ _ c.in-Ok-None.field-0-is c.in-Ok-None.ensures.end in
    let answers = c.args.set.now.answers in
    let at : length answers ≡ c.args.place.now = same_place_in _ _ (sym ended.0 ∙ c.requires) in
    let place = c.args.place.now in
    record {
      some = tt;
      end = (refl, subst (λ n. length (cut c.args.limit answers) ≤ n) at (cut_short c.args.limit answers));
      places = ended.1 ∙ place_kept _ _ _ c.requires;
      kept = c.next.ensures.kept.answers;
      paid =
          paid_spent g.E.Ranked.share g.met.E.Ranked.share_rises c.args.set.now c.next.new.self _ _ c.args.steps.now c.next.new.steps (Ok None)
          (at_below (λ calls. Spent g.E.Ranked.share c.args.set.now c.next.new.self (place + calls) calls c.args.steps.now c.next.new.steps)
          c.args.limit place (c.is_reached.ensures.within c.if-is_reached.false)
          (spent_call g.E.Ranked.share g.met.E.Ranked.share_rises c.args.set.now c.next.new.self c.args.id.number place c.args.steps.now c.next.new.steps c.requires
          c.next.ensures.kept c.next.ensures.grown c.next.ensures.known c.next.ensures.calls c.next.ensures.share (inr ended.2)));
      once = within_one g.E.Ranked.share g.met.E.Ranked.share_rises c.args.set.now c.next.new.self c.args.id.number place c.args.steps.now c.next.new.steps c.requires
          c.next.ensures.kept c.next.ensures.grown c.next.ensures.known c.next.ensures.calls c.next.ensures.share;
    }

pub returns-in-Err : goal.returns-in-Err
returns-in-Err g c =
    let place = c.args.place.now in
    record {
      some = tt;
      end = tt;
      places = c.in-Err.ensures.refused.1 ∙ place_kept _ _ _ c.requires;
      kept = c.next.ensures.kept.answers;
      paid =
          record {
            spent = tt;
            within = at_below (λ calls. KeepsSessionCost g.E.Ranked.share c.args.set.now (place + calls) calls c.args.steps.now c.next.new.steps)
                c.args.limit place (c.is_reached.ensures.within c.if-is_reached.false)
                (within_call g.E.Ranked.share g.met.E.Ranked.share_rises c.args.set.now c.next.new.self c.args.id.number place c.args.steps.now c.next.new.steps c.requires
                c.next.ensures.kept c.next.ensures.grown c.next.ensures.known c.next.ensures.calls c.next.ensures.share);
          };
      once = within_one g.E.Ranked.share g.met.E.Ranked.share_rises c.args.set.now c.next.new.self c.args.id.number place c.args.steps.now c.next.new.steps c.requires
          c.next.ensures.kept c.next.ensures.grown c.next.ensures.known c.next.ensures.calls c.next.ensures.share;
    }

pub returns-then-is_reached : goal.returns-then-is_reached
returns-then-is_reached g c =
    let place = c.args.place.now in
    record {
      some = tt;
      end = (refl, cut_ended c.args.limit c.args.set.now.answers c.args.place.now (c.is_reached.ensures.reached c.if-is_reached.true));
      places = place_kept _ _ _ c.requires;
      kept = refl;
      paid =
          paid_spent g.E.Ranked.share g.met.E.Ranked.share_rises c.args.set.now c.args.set.now _ _ c.args.steps.now c.args.steps.now (Ok None)
          (at_limit (λ calls. Spent g.E.Ranked.share c.args.set.now c.args.set.now (place + calls) calls c.args.steps.now c.args.steps.now)
          c.args.limit place (c.is_reached.ensures.reached c.if-is_reached.true)
          (spent_places g.E.Ranked.share g.met.E.Ranked.share_rises c.args.set.now c.args.set.now (place + 0) 0 c.args.steps.now c.args.steps.now refl (at_most_one _ _)));
      once = at_most_more _ _ _;
    }

pub returns-in_default : goal.returns-in_default
returns-in_default g c =
    let place = c.args.place.now in let set = c.args.set.now in
    record {
      some = tt;
      end = tt;
      places = place_kept _ _ _ c.requires;
      kept = refl;
      paid =
          record {
            spent = tt;
            within = at_below (λ calls. KeepsSessionCost g.E.Ranked.share set (place + calls) calls c.args.steps.now c.args.steps.now) c.args.limit place
                (c.is_reached.ensures.within c.if-is_reached.false)
                (within_spent g.E.Ranked.share g.met.E.Ranked.share_rises set set (place + 1) 1 c.args.steps.now c.args.steps.now
                (spent_places g.E.Ranked.share g.met.E.Ranked.share_rises set set (place + 1) 1 c.args.steps.now c.args.steps.now refl (at_most_one _ _)));
          };
      once = at_most_more _ _ _;
    }
