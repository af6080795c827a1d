use Rattle.std.proofs.Common.{Ok, Err, arith}
use Rattle.command_input.specs.Input.{loaded_of}
use Rattle.command_input.specs.Tasks.{command_of}
use Rattle.outer_io.proofs.Prints.{appends_nothing}
use Rattle.outer_io.specs.SinkState.{state_of}
use Rattle.refusals.specs.RefusalReasons.{reason_of}
use Rattle.verdict.specs.AcceptedInput.{AcceptedInput, found_of}
use Rattle.anyk_top.specs.Answering.{answered, rejected}
use Rattle.anyk_top.specs.Plans.{shapes_in}
use Rattle.anyk_top.proofs.Answering.{over_shaped, planned_over}
use Rattle.anyk_top.proofs.Bounds.{kept_early}
use Rattle.anyk_top.proofs.execute.answer_planned.Goals as goal

pub returns-in-Err : goal.returns-in-Err
returns-in-Err g c =
    let command = command_of c.args.task.now in
    let input = c.args.input.now in
    let refusal = c.in-Err.refusal in
    let sink = state_of g.S.Sink c.args.out.now in
    record {
      answered = rejected {refusal = refusal} (planned_over command (loaded_of input) (Err (reason_of refusal)) c.requires.planned c.in-Err.ensures.judged)
          (appends_nothing (g.S.Sink.written c.args.out.now)) (omega arith)
          (λ found judged. kept_early command input found sink sink c.args.steps.now c.plan_input.new.steps c.requires.alone c.in-Err.ensures.cost
          (over_shaped command (loaded_of input) (Ok found) c.requires.planned judged));
    }

pub returns-in-Ok : goal.returns-in-Ok
returns-in-Ok g c =
    let command = command_of c.args.task.now in
    let input = c.args.input.now in
    let found : AcceptedInput = found_of (loaded_of input) (shapes_in c.in-Ok.plans) in
    let own = c.print_planned.ensures in
    record {
      answered = rw c.refused.ensures (answered found c.print_planned.result
          (planned_over command (loaded_of input) (Ok found) c.requires.planned c.in-Ok.ensures.judged) own.printed own.silent (record {
            bounded = own.bounded c.args.steps.now c.in-Ok.ensures.cost;
            paced = own.paced c.args.steps.now c.in-Ok.ensures.cost;
          }));
    }
