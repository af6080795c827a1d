use Rattle.std.proofs.Common.{◌≡◌, length}
use Rattle.proof_check.specs.Subtrees.{ArePlacedBefore}
use Rattle.proof_check.proofs.places.solution_places.Given as goal

abbrev pub invariant-loop-at : goal.invariant-loop-at
invariant-loop-at g l = record { long : length l.places ≡ 16; placed : ArePlacedBefore l.raw l.node l.rows l.places l.at }
