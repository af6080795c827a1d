use Rattle.std.proofs.Common.{◌≡◌, [], replicate}
use Rattle.link_index.specs.NumberedLists.{lists_in}
use Rattle.link_index.proofs.list.ListIndex.new.Given as goal

abbrev pub invariant-loop-node : goal.invariant-loop-node
invariant-loop-node l = lists_in l.sets.items ≡ replicate l._node []
