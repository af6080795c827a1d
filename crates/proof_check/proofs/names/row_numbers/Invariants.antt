use Rattle.proof_check.specs.Lines.{AreNumbers}
use Rattle.proof_check.proofs.names.row_numbers.Given as goal

abbrev pub invariant-loop-row : goal.invariant-loop-row
invariant-loop-row g l = AreNumbers l.raw l.groups l.node l.child l.row l.numbers.items
