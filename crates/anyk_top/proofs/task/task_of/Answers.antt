use Rattle.std.proofs.Common.{refl}
use Rattle.anyk_top.proofs.task.task_of.Goals as goal

pub returns-in-Run : goal.returns-in-Run
returns-in-Run c = record { asked = rw c.in-Run.is refl; early = tt }

pub returns-in-Plan : goal.returns-in-Plan
returns-in-Plan c = record { asked = rw c.in-Plan.is refl; early = tt }

pub returns-in-Prove : goal.returns-in-Prove
returns-in-Prove c = record { asked = rw c.in-Prove.is refl; early = tt }

pub returns-in-Session : goal.returns-in-Session
returns-in-Session c = record {
  asked = rw c.in-Session.is c.session_of.ensures.asked;
  early = rw c.in-Session.is c.session_of.ensures.early;
}

pub returns-in-Verify : goal.returns-in-Verify
returns-in-Verify c = record {
  asked = rw c.in-Verify.is c.verify_of.ensures.asked;
  early = rw c.in-Verify.is c.verify_of.ensures.early;
}
