use Rattle.bound_query.specs.Graph.{IsItemSet}
use Rattle.bound_query.specs.StoredParts.{lists_view}
use Rattle.bound_query.proofs.item_sets.items_with.Given as goal

abbrev pub invariant-loop-i : goal.invariant-loop-i
invariant-loop-i l = IsItemSet (lists_view l.of_items) l.number l.i l.set
