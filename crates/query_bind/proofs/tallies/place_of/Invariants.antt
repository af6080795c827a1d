use Rattle.std.proofs.Common.{take}
use Rattle.rankings.specs.Order.{IsMember}
use Rattle.query_bind.specs.Tallies.{columns_of}
use Rattle.query_bind.proofs.tallies.place_of.Given as goal

abbrev pub invariant-loop-i : goal.invariant-loop-i
invariant-loop-i l = IsMember l.column (columns_of (take l.i l.tallies)) → ⊥
