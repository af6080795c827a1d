use Rattle.std.proofs.Common.{◌≡◌, ℕ, ◌≤◌, ◌+◌, true, [], map, take, length, get_or}
use Rattle.std.specs.List.{All}
use Rattle.std.proofs.Math.ListN.{set}
use Rattle.semi_join.specs.Reduction.{are_met, groups_met, links_of}
use Rattle.semi_join.proofs.node.child_groups.Given as goal

abbrev pub invariant-loop-place : goal.invariant-loop-place
invariant-loop-place g l = record {
  met : are_met l.children l.node (map links_of l.later) (get_or l.initial.named.rows l.from []) l.place ≡ true;
  row : take l.place (get_or l.named.rows l.to []) ≡ groups_met l.children l.node (map links_of l.later) (get_or l.initial.named.rows l.from []) l.place;
  others : l.named.rows ≡ set l.initial.named.rows l.to (get_or l.named.rows l.to []);
  ahead : (c : ℕ) → l.place ≤ c → get_or (get_or l.named.rows l.from []) c 0 ≡ get_or (get_or l.initial.named.rows l.from []) c 0;
  wide : All (λ ks. length ks ≡ length l.children) l.named.rows;
  counted : l.steps ≤ l.initial.steps + l.place;
}
