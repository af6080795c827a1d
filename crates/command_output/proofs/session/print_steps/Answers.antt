use Rattle.std.proofs.Common.{◌≡◌, ◌<◌, get_or, length, refl, subst, sym, ◌∙◌}
use Rattle.outer_io.specs.Printing.{Printed}
use Rattle.outer_io.proofs.Prints.{printed_stopped, printed_then}
use Rattle.witness_key.specs.WitnessKey.{AreCombinations}
use Rattle.outer_io.specs.SinkState.{state_of}
use Rattle.command_output.specs.TakenSteps.{State}
use Rattle.command_output.proofs.Pieces.{paced_after, paced_still}
use Rattle.command_output.proofs.Spending.{at_most_more}
use Rattle.command_output.proofs.SessionRun.{pieces_of, run_all, run_cost, run_more, run_pace, run_paced, run_start, run_stopped, run_within}
use Rattle.outer_io.proofs.HandedOn.{handed_on}
use Rattle.command_output.proofs.session.print_steps.Goals as goal

pub returns-in_err-print_header : goal.returns-in_err-print_header
returns-in_err-print_header g c =
    record {
      printed = handed_on (Printed _ _ _) c.from_residual.result _ c.from_residual.ensures.1 (printed_stopped _ _ _ _ _ c.in_err-print_header.ensures);
      within = at_most_more _ _ _;
      paced = paced_still g.E.Ranked.share g.met.E.Ranked.share_rises c.args.set.now _ _ _ c.args.steps.now;
    }

pub loop-step-init : goal.loop-step-init
loop-step-init g c = record {
  answers = refl;
  run = run_start g.E.Ranked.share g.met.E.Ranked.share_rises c.args.listing.now c.args.set.now.answers c.args.script.now _ refl c.requires.places c.requires.rules;
}

pub take_step-requires-clause-fits : goal.take_step-requires-clause-fits
take_step-requires-clause-fits g c = c.requires.fits

pub take_step-requires-clause-rows : goal.take_step-requires-clause-rows
take_step-requires-clause-rows g c =
    subst (AreCombinations c.args.listing.now.query.now.query c.args.listing.now.tables.now) (sym c.loop-step.invariant.answers) c.requires.rows

pub take_step-requires-clause-same : goal.take_step-requires-clause-same
take_step-requires-clause-same g c = c.loop-step.invariant.run.taken.held.same

pub loop-step-preserved : goal.loop-step-preserved
loop-step-preserved g c =
    let inside : c.loop-step.step-index < length c.args.script.now = c.loop-step-test.true in
    let here : get_or c.args.script.now c.loop-step.step-index c.step-item.result ≡ c.step-item.result = sym c.step-item.is in
    let mid : State = record { set = c.loop-step.set; cursors = c.loop-step.cursors; sink = state_of g.S.Sink c.loop-step.out; steps = c.loop-step.steps } in
    let new : State = record { set = c.take_step.new.set; cursors = c.take_step.new.cursors; sink = state_of g.S.Sink c.take_step.new.out; steps = c.take_step.new.steps } in
    record {
      answers = c.in_ok-take_step.ensures.kept ∙ c.loop-step.invariant.answers;
      run = run_more g.E.Ranked.share g.met.E.Ranked.share_rises c.args.listing.now c.args.set.now.answers c.args.script.now c.loop-step.step-index c.step-item.result inside here
          c.args.set.now (state_of g.S.Sink c.print_header.new.out) c.args.steps.now mid new c.loop-step.invariant.run c.loop-step.invariant.answers c.in_ok-take_step.ensures.taken;
    }

pub returns-in_err-take_step : goal.returns-in_err-take_step
returns-in_err-take_step g c =
    let inside : c.loop-step.step-index < length c.args.script.now = c.loop-step-test.true in
    let here : get_or c.args.script.now c.loop-step.step-index c.step-item.result ≡ c.step-item.result = sym c.step-item.is in
    let mid : State = record { set = c.loop-step.set; cursors = c.loop-step.cursors; sink = state_of g.S.Sink c.loop-step.out; steps = c.loop-step.steps } in
    let new : State = record { set = c.take_step.new.set; cursors = c.take_step.new.cursors; sink = state_of g.S.Sink c.take_step.new.out; steps = c.take_step.new.steps } in
    let head = c.in_ok-print_header.ensures in
    record {
      printed =
          handed_on (Printed _ _ _) c.from_residual-in_err-take_step.result _ c.from_residual-in_err-take_step.ensures.1 (printed_then _ _ _ _ _ _ head.whole head.later
          (run_stopped g.E.Ranked.share g.met.E.Ranked.share_rises c.args.listing.now c.args.set.now.answers c.args.script.now c.loop-step.step-index c.step-item.result inside here
          c.args.set.now (state_of g.S.Sink c.print_header.new.out) c.args.steps.now mid new c.loop-step.invariant.run c.loop-step.invariant.answers c.in_err-take_step.field-0.0 c.in_err-take_step.ensures.taken));
      within =
          run_within g.E.Ranked.share g.met.E.Ranked.share_rises c.args.listing.now c.args.set.now.answers c.args.script.now c.loop-step.step-index c.step-item.result inside here
          c.args.set.now (state_of g.S.Sink c.print_header.new.out) c.args.steps.now mid new c.loop-step.invariant.run c.loop-step.invariant.answers _ c.in_err-take_step.ensures.taken;
      paced =
          let start = state_of g.S.Sink c.print_header.new.out in
          let stopped =
          run_stopped g.E.Ranked.share g.met.E.Ranked.share_rises c.args.listing.now c.args.set.now.answers c.args.script.now c.loop-step.step-index c.step-item.result inside here
          c.args.set.now start c.args.steps.now mid new c.loop-step.invariant.run c.loop-step.invariant.answers c.in_err-take_step.field-0.0 c.in_err-take_step.ensures.taken in
          paced_after g.E.Ranked.share g.met.E.Ranked.share_rises c.args.set.now (pieces_of c.args.listing.now c.args.set.now.answers c.args.script.now)
          (g.S.Sink.written c.args.out.now) start.written new.sink.written _ stopped.prefix.0 c.args.steps.now c.take_step.new.steps head.whole stopped.prefix.1
          (run_paced g.E.Ranked.share g.met.E.Ranked.share_rises c.args.listing.now c.args.set.now.answers c.args.script.now c.loop-step.step-index c.step-item.result inside here
          c.args.set.now start c.args.steps.now mid new c.loop-step.invariant.run c.loop-step.invariant.answers _ c.in_err-take_step.ensures.taken);
    }

pub returns : goal.returns
returns g c =
    let head = c.in_ok-print_header.ensures in
    let mid : State = record { set = c.loop-step.set; cursors = c.loop-step.cursors; sink = state_of g.S.Sink c.loop-step.out; steps = c.loop-step.steps } in
    record {
      printed =
          printed_then _ _ _ _ _ _ head.whole head.later
          (run_all g.E.Ranked.share g.met.E.Ranked.share_rises c.args.listing.now c.args.set.now.answers c.args.script.now c.loop-step.step-index c.args.set.now (state_of g.S.Sink c.print_header.new.out) c.args.steps.now mid c.loop-step.invariant.run c.loop-step-test.false);
      paced =
          let start = state_of g.S.Sink c.print_header.new.out in
          let all =
          run_all g.E.Ranked.share g.met.E.Ranked.share_rises c.args.listing.now c.args.set.now.answers c.args.script.now c.loop-step.step-index c.args.set.now start
          c.args.steps.now mid c.loop-step.invariant.run c.loop-step-test.false in
          paced_after g.E.Ranked.share g.met.E.Ranked.share_rises c.args.set.now (pieces_of c.args.listing.now c.args.set.now.answers c.args.script.now)
          (g.S.Sink.written c.args.out.now) start.written mid.sink.written _ all.prefix.0 c.args.steps.now c.loop-step.steps head.whole all.prefix.1
          (run_pace g.E.Ranked.share g.met.E.Ranked.share_rises c.args.listing.now c.args.set.now.answers c.args.script.now c.loop-step.step-index c.args.set.now start c.args.steps.now mid
          c.loop-step.invariant.run);
      within = run_cost g.E.Ranked.share g.met.E.Ranked.share_rises c.args.listing.now c.args.set.now.answers c.args.script.now c.loop-step.step-index c.args.set.now (state_of g.S.Sink c.print_header.new.out) c.args.steps.now mid c.loop-step.invariant.run;
    }
