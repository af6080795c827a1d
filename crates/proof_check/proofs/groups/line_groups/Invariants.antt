use Rattle.proof_model.specs.ProofView.{proof_view}
use Rattle.proof_check.specs.Lines.{AreLineGroups}
use Rattle.proof_check.proofs.groups.line_groups.Given as goal

abbrev pub invariant-loop-line : goal.invariant-loop-line
invariant-loop-line g l = AreLineGroups l.raw (proof_view l.proof) l.tops l.line l.groups.items
