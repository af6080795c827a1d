use Rattle.std.proofs.Common.{◌≡◌}
use Rattle.outer_io.specs.SinkState.{state_of}
use Rattle.command_output.proofs.SessionRun.{HasRun}
use Rattle.command_output.proofs.session.print_steps.Given as goal

abbrev pub invariant-loop-step : goal.invariant-loop-step
invariant-loop-step g l = record {
  answers : l.set.answers ≡ l.initial.set.answers;
  run : HasRun g.E.Ranked.share l.listing l.initial.set.answers l.script l.step-index l.initial.set (state_of g.S.Sink l.initial.out) l.initial.steps
      (record { set = l.set; cursors = l.cursors; sink = state_of g.S.Sink l.out; steps = l.steps });
}
