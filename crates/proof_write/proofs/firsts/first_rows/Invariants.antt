use Rattle.proof_write.proofs.ChosenDown.{HasChosen}
use Rattle.proof_write.proofs.firsts.first_rows.Given as goal

abbrev pub invariant-loop-below : goal.invariant-loop-below
invariant-loop-below g l = HasChosen l.tree l.node l.group l.below l.chosen l.rows
