use Rattle.std.proofs.Common.{◌++◌}
use Rattle.std.specs.List.{flat_map}
use Rattle.anyk_model.specs.Output.{cut, header_text, line_text}
use Rattle.bound_query.proofs.Pacing.{paced_after}
use Rattle.witness_key.specs.WitnessKey.{combinations_in}
use Rattle.outer_io.specs.Printing.{Printed}
use Rattle.outer_io.specs.SinkState.{state_of}
use Rattle.outer_io.proofs.Prints.{printed_stopped, printed_then}
use Rattle.answer_print.specs.StyleView.{style_view}
use Rattle.command_output.proofs.Spending.{at_most_one}
use Rattle.outer_io.proofs.HandedOn.{handed_on}
use Rattle.command_output.proofs.ranking.print_ranking.Goals as goal

pub returns-in_err-print_header : goal.returns-in_err-print_header
returns-in_err-print_header g c =
    let query = c.args.query.now.query in
    let style = style_view c.args.style.now in
    let old = state_of g.S.Sink c.args.out.now in
    let new = state_of g.S.Sink c.print_header.new.out in
    let head = header_text query c.args.tables.now style in
    let lines = flat_map (line_text query c.args.tables.now style) (cut query.limit (combinations_in query (g.E.Ranked.rest c.args.engine.now))) in
    let e = c.in_err-print_header.field-0.0 in
    record {
      printed = handed_on (Printed old new (head ++ lines)) c.from_residual.result e c.from_residual.ensures.1 (printed_stopped old new head lines e c.in_err-print_header.ensures);
      bounded = at_most_one _ _;
      prompt = λ start part is_old is_new. at_most_one _ _;
    }

pub returns : goal.returns
returns g c =
    let query = c.args.query.now.query in
    let style = style_view c.args.style.now in
    let old = state_of g.S.Sink c.args.out.now in
    let mid = state_of g.S.Sink c.print_header.new.out in
    let new = state_of g.S.Sink c.print_answers.new.out in
    let text = header_text query c.args.tables.now style in
    let lines = flat_map (line_text query c.args.tables.now style) (cut query.limit (combinations_in query (g.E.Ranked.rest c.args.engine.now))) in
    let head = c.in_ok-print_header.ensures in
    record {
      printed = printed_then old mid new text lines c.print_answers.result head.whole head.later c.print_answers.ensures.printed;
      bounded = c.print_answers.ensures.paced.bounded;
      prompt =
          λ start part is_old is_new.
          let rest = c.print_answers.ensures.printed.prefix in
          paced_after _ _ _ old.written mid.written new.written c.args.steps.now c.print_answers.new.steps text rest.0 head.whole rest.1 c.print_answers.ensures.paced start part is_old is_new;
    }
