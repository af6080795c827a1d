use Rattle.std.proofs.Common.{None}
use Rattle.node_build.proofs.Shaped.{caps_small}
use Rattle.proof_model.specs.ProofView.{proof_view}
use Rattle.verdict.specs.Verdict.{IsCertified, IsStructure}
use Rattle.verdict.proofs.Staging.{pure_refused}
use Rattle.command_verify.proofs.Verifying.{cycle_told}
use Rattle.command_verify.specs.Verifications.{shape_reason}
use Rattle.command_verify.proofs.checking.check_proof.Goals as goal

pub returns-in-Err-clause-checked : goal.returns-in-Err-clause-checked
returns-in-Err-clause-checked g c =
    let query = c.args.query.now.query in
    let tables = c.args.tables.now in
    pure_refused (IsStructure None tables query) (λ shape. IsCertified query tables shape (proof_view c.args.proof.now))
    (shape_reason c.in-Err.fault) (cycle_told query tables c.in-Err.fault c.in-Err.ensures.refusal)

pub listed_answers-requires-clause-limit : goal.listed_answers-requires-clause-limit
listed_answers-requires-clause-limit g c = caps_small c.args.query.now c.args.tables.now c.requires.fits

pub listed_answers-requires-else-keys-le1-clause-limit : goal.listed_answers-requires-else-keys-le1-clause-limit
listed_answers-requires-else-keys-le1-clause-limit g c = caps_small c.args.query.now c.args.tables.now c.requires.fits
