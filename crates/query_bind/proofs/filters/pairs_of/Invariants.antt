use Rattle.query_bind.specs.Filters.{HavePairs}
use Rattle.query_bind.specs.Labels.{least_in}
use Rattle.query_bind.proofs.filters.pairs_of.Given as goal

abbrev pub invariant-loop-place : goal.invariant-loop-place
invariant-loop-place l = HavePairs (least_in l.classes) l.item l.place l.pairs.items
