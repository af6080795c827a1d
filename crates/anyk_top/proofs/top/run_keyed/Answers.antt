use Rattle.std.proofs.Common.{map}
use Rattle.std.specs.String.{string_bytes}
use Rattle.anyk_top.specs.CommandLine.{asked_in}
use Rattle.verdict.proofs.Steps.{bounded_still, prompt_still}
use Rattle.verdict.proofs.Whole.{untouched_still}
use Rattle.verdict.specs.MadeFiles.{files_of_call}
use Rattle.verdict.specs.Outcome.{Outside}
use Rattle.verdict.specs.Words.{a_command}
use Rattle.command_input.specs.Tasks.{command_of}
use Rattle.verdict.specs.OutsideOf.{outside_before}
use Rattle.anyk_top.proofs.Ends.{early_outcome, command_outcome}
use Rattle.outer_io.specs.SinkState.{state_of}
use Rattle.outer_io.proofs.Prints.{appends_nothing}
use Rattle.anyk_top.proofs.top.run_keyed.Goals as goal

pub returns-in-Ok : goal.returns-in-Ok
returns-in-Ok g c =
    let old : Outside = outside_before g.F.Shelf g.S.Sink c.args.shelf.now c.args.out.now in
    let new : Outside = outside_before g.F.Shelf g.S.Sink c.execute.new.shelf c.execute.new.out in
    let command = command_of c.in-Ok.task in
    record {
      outcome = rw c.in-Ok.ensures.asked
          (command_outcome command (files_of_call (a_command command) (g.F.Shelf.files c.args.shelf.now)) old new
          (state_of g.E.Sink c.args.err.now) (state_of g.E.Sink c.finish-status.new.err) c.args.steps.now c.execute.new.steps
          c.execute.result c.finish-status.result c.execute.ensures.executed c.finish-status.ensures);
      bounded = rw c.in-Ok.ensures.asked c.execute.ensures.executed.bounded;
      prompt = rw c.in-Ok.ensures.asked c.execute.ensures.executed.prompt;
      untouched = rw c.in-Ok.ensures.asked c.execute.ensures.untouched;
    }

pub returns-in-Err : goal.returns-in-Err
returns-in-Err g c =
    let asked = asked_in (map string_bytes c.args.words.now) in
    let told = files_of_call asked (g.F.Shelf.files c.args.shelf.now) in
    record {
      outcome = early_outcome _ _ _ _ c.in-Err.fault _ _ c.in-Err.ensures.early c.refusal_of.ensures (appends_nothing _) c.finish.ensures;
      bounded = bounded_still asked told c.args.steps.now;
      prompt = prompt_still asked told (g.S.Sink.written c.args.out.now) (g.S.Sink.written c.args.out.now) c.args.steps.now;
      untouched = untouched_still asked c.args.shelf.now;
    }
