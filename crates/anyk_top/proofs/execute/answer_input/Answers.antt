use Rattle.command_input.proofs.Judging.{planned_of}
use Rattle.anyk_top.proofs.Answering.{shown_answered}
use Rattle.anyk_top.proofs.execute.answer_input.Goals as goal

pub verify_input-requires-clause-one : goal.verify_input-requires-clause-one
verify_input-requires-clause-one g c =
    let alone = rw c.in-Verify.is at c.requires.alone in
    alone.0

pub verify_input-requires-clause-unnamed : goal.verify_input-requires-clause-unnamed
verify_input-requires-clause-unnamed g c =
    let alone = rw c.in-Verify.is at c.requires.alone in
    alone.1

pub returns-in-Verify : goal.returns-in-Verify
returns-in-Verify g c = record { answered = rw c.in-Verify.is (shown_answered _ _ _ _ _ _ _ _ c.verify_input.ensures) }

pub answer_planned-requires-clause-planned : goal.answer_planned-requires-clause-planned
answer_planned-requires-clause-planned g c = planned_of c.args.task.now c.in_default.not-Verify

pub answer_planned-requires-clause-alone : goal.answer_planned-requires-clause-alone
answer_planned-requires-clause-alone g c = c.requires.alone
