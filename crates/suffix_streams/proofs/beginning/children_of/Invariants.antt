use Rattle.std.proofs.Common.{◌≡◌, ℕ, ◌<◌, length, get_or}
use Rattle.tdp_core.specs.TreeView.{parent, kids_below}
use Rattle.suffix_streams.specs.Rankings.{child_among}
use Rattle.suffix_streams.proofs.beginning.children_of.Given as goal

-- the children among the nodes before `child` are there
abbrev pub invariant-loop-child : goal.invariant-loop-child
invariant-loop-child g l = record {
  count : length l.children.items ≡ kids_below (parent l.tree) l.node l.child;
  each : (c : ℕ) → c < kids_below (parent l.tree) l.node l.child → get_or l.children.items c 0 ≡ child_among (parent l.tree) l.node c l.child;
}
