use Rattle.std.proofs.Common.{◌≡◌, map, take}
use Rattle.proof_check.proofs.checking.rows_of.Given as goal

abbrev pub invariant-loop-i : goal.invariant-loop-i
invariant-loop-i l = map (take l.items) l.found.items ≡ take l.i (map (λ a. a.rows.items) l.answers)
