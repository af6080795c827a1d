use Rattle.std.proofs.Common.{take, map}
use Rattle.bound_query.specs.StoredParts.{term_view}
use Rattle.query_bind.specs.Tallies.{AreTalliesOnce}
use Rattle.query_bind.proofs.tallies.tallies_of.Given as goal

abbrev pub invariant-loop-term : goal.invariant-loop-term
invariant-loop-term l = AreTalliesOnce (map term_view (take l.term-index l.terms)) l.tallies.items
