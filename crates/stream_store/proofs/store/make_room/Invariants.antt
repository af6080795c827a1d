use Rattle.std.proofs.Common.{◌≡◌, ◌-◌, ◌^◌, ◌<◌, ◌≤◌}
use Rattle.stream_store.specs.Buckets.{joined, AreFilled, whole_room}
use Rattle.stream_store.proofs.store.make_room.Given as goal

abbrev pub invariant-loop-made : goal.invariant-loop-made
invariant-loop-made g l = record {
  filled : AreFilled 16 l.len l.buckets.items;
  made : l.made ≡ whole_room 16 l.buckets.items;
  entries : joined l.buckets.items ≡ joined l.initial.buckets.items;
  grows : l.initial.made ≤ l.made;
  small : l.made < 2 ^ 32;
}

abbrev pub decreases-loop-made : goal.decreases-loop-made
decreases-loop-made g l = l.count - (l.made - l.len)
