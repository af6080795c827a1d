use Rattle.std.proofs.Common.{◌≡◌, take}
use Rattle.proof_write.specs.Firsts.{listed}
use Rattle.proof_write.proofs.firsts.without_zeros.Given as goal

abbrev pub invariant-loop-row : goal.invariant-loop-row
invariant-loop-row l = l.list.items ≡ listed (take l.row-index l.rows)
