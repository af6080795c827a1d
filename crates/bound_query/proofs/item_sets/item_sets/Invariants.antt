use Rattle.std.proofs.Common.{length}
use Rattle.bound_query.specs.Graph.{AreItemSets}
use Rattle.bound_query.specs.StoredParts.{lists_view}
use Rattle.bound_query.proofs.item_sets.item_sets.Given as goal

abbrev pub invariant-loop-number : goal.invariant-loop-number
invariant-loop-number l = AreItemSets (lists_view l.of_items) (length l.of_items) l.number l.sets.items
