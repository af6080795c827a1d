use Rattle.std.proofs.Common.{◌∙◌, take}
use Rattle.proof_model.specs.ProofView.{proof_view}
use Rattle.proof_check.proofs.Ranked.{begins}
use Rattle.command_verify.proofs.Verifying.{flaw_checked, valid_checked}
use Rattle.command_verify.proofs.checking.listed_answers.Goals as goal

pub returns-in-Ok-clause-checked : goal.returns-in-Ok-clause-checked
returns-in-Ok-clause-checked g c =
    let few = c.in-Ok.ensures.few in
    valid_checked c.args.query.now.query c.args.tables.now c.args.join.now (proof_view c.args.proof.now) c.requires.tree few.0 few.1
    c.in-Ok.ensures.valid

pub returns-in-Ok-clause-answers : goal.returns-in-Ok-clause-answers
returns-in-Ok-clause-answers g c =
    let join = c.args.join.now in
    c.in-Ok.ensures.rows
    ∙ begins c.args.query.now.query c.args.tables.now (take join.count join.atom) (take join.count join.parent) c.requires.fits.within
    c.requires.tree (proof_view c.args.proof.now) c.in-Ok.ensures.valid

pub returns-in-Err-clause-checked : goal.returns-in-Err-clause-checked
returns-in-Err-clause-checked g c =
    flaw_checked c.args.query.now.query c.args.tables.now c.args.join.now (proof_view c.args.proof.now) c.requires.tree c.in-Err.fault
    c.in-Err.ensures.fault
