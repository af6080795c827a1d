use Rattle.command_input.specs.Input.{loaded_of}
use Rattle.command_input.specs.Tasks.{command_of}
use Rattle.command_input.proofs.Handing.{handed_with}
use Rattle.outer_io.proofs.Prints.{appends_nothing}
use Rattle.verdict.specs.Execution.{IsExecuted}
use Rattle.verdict.specs.MadeFiles.{files_of_call}
use Rattle.verdict.specs.Outcome.{Outside}
use Rattle.verdict.specs.OutsideOf.{outside_before}
use Rattle.verdict.specs.Words.{a_command}
use Rattle.anyk_top.proofs.Answering.{answered_ends, unread_ends}
use Rattle.anyk_top.proofs.execute.execute.Goals as goal

pub returns-in_err-input : goal.returns-in_err-input
returns-in_err-input g c =
    let command = command_of c.args.task.now in
    let files = g.F.Shelf.files c.args.shelf.now in
    let old : Outside = outside_before g.F.Shelf g.S.Sink c.args.shelf.now c.args.out.now in
    let new : Outside = outside_before g.F.Shelf g.S.Sink c.read_input.new.shelf c.args.out.now in
    let refusal = c.in_err-input.field-0.0 in
    record {
      executed = handed_with (λ r. IsExecuted command (files_of_call (a_command command) files) old new c.args.steps.now c.args.steps.now r)
          c.from_residual.result refusal c.from_residual.ensures.1
          (unread_ends command files (g.F.Shelf.files c.read_input.new.shelf) old new c.args.steps.now refusal c.in_err-input.ensures.looked
          (appends_nothing (g.S.Sink.written c.args.out.now)));
      untouched = c.read_input.ensures.untouched;
    }

pub returns : goal.returns
returns g c = record {
  executed = answered_ends c.args.task.now (g.F.Shelf.files c.args.shelf.now) (g.F.Shelf.files c.read_input.new.shelf)
      (outside_before g.F.Shelf g.S.Sink c.args.shelf.now c.args.out.now) (outside_before g.F.Shelf g.S.Sink c.read_input.new.shelf c.answer_input.new.out)
      c.args.steps.now c.answer_input.new.steps (loaded_of c.in_ok-input.input) c.answer_input.result
      c.in_ok-input.ensures.looked c.answer_input.ensures.answered;
  untouched = c.read_input.ensures.untouched;
}

pub answer_input-requires : goal.answer_input-requires
answer_input-requires g c = record { alone = c.in_ok-input.ensures.alone }
