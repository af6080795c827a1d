use Rattle.std.proofs.Common.{◌≡◌, take, length}
use Rattle.proof_check.proofs.checking.first_items.Given as goal

abbrev pub invariant-loop-i : goal.invariant-loop-i
invariant-loop-i l = record { size : length l.found ≡ 16; same : take l.i l.found ≡ take l.i l.rows }
