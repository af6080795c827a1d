use Rattle.bound_query.specs.StoredParts.{lists_view}
use Rattle.std.proofs.Common.{length}
use Rattle.bound_query.proofs.GraphOf.{sets_more}
use Rattle.bound_query.proofs.item_sets.item_sets.Goals as goal

pub loop-number-preserved : goal.loop-number-preserved
loop-number-preserved c =
    sets_more (lists_view c.args.of_items.now) (length c.args.of_items.now) c.loop-number.number c.items_with.result c.loop-number.sets.items c.push.new.self.items
    c.in_ok-push.ensures.items c.loop-number.invariant c.items_with.ensures
