use Rattle.std.proofs.Common.{Err, subst, sym}
use Rattle.command_input.specs.Input.{loaded_of}
use Rattle.refusals.specs.Reason.{Reason}
use Rattle.verdict.specs.StageResults.{Pure}
use Rattle.verdict.specs.Verdict.{IsShaped}
use Rattle.anyk_top.proofs.planning.plan_input.Goals as goal

pub returns-in-Err : goal.returns-in-Err
returns-in-Err g c = record {
  judged = subst (λ (reason : Reason). Pure (IsShaped (loaded_of c.args.input.now)) (Err reason)) (sym c.plan_refusal.ensures) c.in-Err.ensures.shaped;
  plans = tt;
  cost = c.in-Err.ensures.cost;
}

pub returns-in-Ok : goal.returns-in-Ok
returns-in-Ok g c = record { judged = c.in-Ok.ensures.shaped; plans = c.in-Ok.ensures.plans; cost = c.in-Ok.ensures.cost }
