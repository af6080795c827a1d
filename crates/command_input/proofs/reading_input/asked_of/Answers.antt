use Rattle.command_input.proofs.reading_input.asked_of.Goals as goal

pub returns-in-Run : goal.returns-in-Run
returns-in-Run c = rw c.in-Run.is (rw c.text_of.ensures at c.asked_in.ensures.asked)

pub returns-in-Plan : goal.returns-in-Plan
returns-in-Plan c = rw c.in-Plan.is c.asked_in-in-Plan.ensures.asked

pub returns-in-Session : goal.returns-in-Session
returns-in-Session c = rw c.in-Session.is (rw (c.as_str.ensures.value, c.text_of-in-Session.ensures) at c.asked_in-in-Session.ensures.asked)

pub returns-in-Load : goal.returns-in-Load
returns-in-Load c = rw c.in-Load.is c.asked_of_made.ensures.asked

pub returns-in-Prove : goal.returns-in-Prove
returns-in-Prove c = rw c.in-Prove.is c.asked_in-in-Prove.ensures.asked

pub returns-in-Verify : goal.returns-in-Verify
returns-in-Verify c = rw c.in-Verify.is (rw c.as_str-in-Verify.ensures.value at c.asked_in-in-Verify.ensures.asked)
