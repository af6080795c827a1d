use Rattle.std.proofs.Common.{◌≡◌, ◌≤◌, ◌+◌, ◌*◌, map, length, take}
use Rattle.std.specs.List.{All}
use Rattle.tdp_core.specs.RawView.{RawView}
use Rattle.semi_join.specs.Reduction.{IsSource, links_of}
use Rattle.semi_join.proofs.InPlace.{IsTail}
use Rattle.semi_join.proofs.SoFar.{IsSoFar}
use Rattle.semi_join.proofs.node.keep_in_place.Given as goal

abbrev pub invariant-loop-i : goal.invariant-loop-i
invariant-loop-i g l = record {
  so_far : (raw : RawView g.row.R.Denot) → IsSource raw l.node l.later l.children l.initial.kept.rows l.initial.kept.numbers.items l.initial.kept.to_child.rows
      → IsSoFar raw l.node (map links_of l.later) l.i (take l.to l.kept.rows) (take l.to l.kept.to_child.rows) (links_of l.kept.links) (take l.to l.kept.numbers.items);
  front : l.to ≤ l.i;
  rows : IsTail l.i l.initial.kept.rows l.kept.rows;
  numbers : IsTail l.i l.initial.kept.numbers.items l.kept.numbers.items;
  named : IsTail l.i l.initial.kept.to_child.rows l.kept.to_child.rows;
  wide : All (λ ks. length ks ≡ length l.children) l.kept.to_child.rows;
  few : length (links_of l.kept.links) ≤ l.i;
  counted : l.steps ≤ l.initial.steps + l.i * (length l.children + 1);
}
