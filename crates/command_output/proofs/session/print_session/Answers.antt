use Rattle.std.proofs.Common.{◌≤◌, ◌+◌, ◌*◌, ℕ, List, ap, subst}
use Rattle.anyk_model.specs.Output.{cut}
use Rattle.witness_key.specs.WitnessKey.{combinations_in}
use Rattle.outer_io.specs.Printing.{Printed}
use Rattle.outer_io.specs.SinkState.{state_of}
use Rattle.tdp_core.specs.AnswerView.{AnswerView}
use Rattle.output_model.specs.Session.{no_cursors, session_text}
use Rattle.output_model.specs.SessionCalls.{calls_of_steps, ends_by_itself, reach_of_steps}
use Rattle.output_model.specs.SessionPieces.{pieces_in}
use Rattle.cursor_set.specs.CursorSet.{CursorSet, seen_of}
use Rattle.command_output.specs.SessionCosts.{KeepsSessionCost, engine_steps}
use Rattle.answer_print.specs.StyleView.{style_view}
use Rattle.command_output.proofs.SessionCosts.{new_steps, within_new}
use Rattle.command_output.proofs.session.print_session.Goals as goal

pub returns : goal.returns
returns g c =
    let is = c.new-set.ensures.set in let query = c.args.query.now.query in
    let script = c.args.script.now in
    let told = ap (λ (s : CursorSet). s.answers) is in
    let all : List AnswerView → List (List ℕ) = λ (l : List AnswerView). combinations_in query l in
    let reach : List AnswerView → ℕ = λ (l : List AnswerView). reach_of_steps (ends_by_itself query.limit (all l)) (cut query.limit (all l)) no_cursors script in
    let calls : List AnswerView → ℕ = λ (l : List AnswerView). calls_of_steps (ends_by_itself query.limit (all l)) (cut query.limit (all l)) no_cursors script in
    let rest = g.E.Ranked.rest c.args.engine in
    record {
      printed =
          subst
          (λ (l : List AnswerView). Printed (state_of g.S.Sink c.args.out.now) (state_of g.S.Sink c.print_steps.new.out) (session_text query c.args.tables.now (style_view c.args.style.now) (cut query.limit (all l)) script) c.print_steps.result)
          told c.print_steps.ensures.printed;
      bounded =
          within_new g.E.Ranked.share g.met.E.Ranked.share_rises c.new-set.result (g.E.Ranked.size c.args.engine) (g.E.Ranked.calls c.args.engine) (reach rest) (calls rest) c.args.steps.now
          c.print_steps.new.steps (ap (λ (s : CursorSet). s.size) is) (ap (λ (s : CursorSet). s.calls) is) (ap seen_of is)
          (subst (λ (l : List AnswerView). KeepsSessionCost g.E.Ranked.share c.new-set.result (reach l) (calls l) c.args.steps.now c.print_steps.new.steps) told c.print_steps.ensures.within);
      prompt = λ start part is_old is_new.
          let whole : List AnswerView → ℕ = λ (l : List AnswerView). pieces_in query c.args.tables.now (style_view c.args.style.now) (cut query.limit (all l)) script part in
          new_steps g.E.Ranked.share g.met.E.Ranked.share_rises c.new-set.result (g.E.Ranked.size c.args.engine) (g.E.Ranked.calls c.args.engine) (whole rest + 1) (whole rest + 1)
          c.args.steps.now c.print_steps.new.steps (ap (λ (s : CursorSet). s.size) is) (ap (λ (s : CursorSet). s.calls) is)
          (subst
          (λ (l : List AnswerView). c.print_steps.new.steps ≤ c.args.steps.now + engine_steps g.E.Ranked.share c.new-set.result (whole l + 1) + 4 * (whole l + 1))
          told (c.print_steps.ensures.paced start part is_old is_new));
    }
