use Rattle.std.proofs.Common.{ℕ, take}
use Rattle.rankings.specs.Order.{IsMember}
use Rattle.node_build.proofs.columns.place_of.Given as goal

abbrev pub invariant-loop-variable : goal.invariant-loop-variable
invariant-loop-variable l = (place : ℕ) → IsMember (l.number, place) (take l.variable-index l.variables) → ⊥
