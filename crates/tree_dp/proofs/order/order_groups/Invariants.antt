use Rattle.std.proofs.Common.{◌≡◌, ℕ, ◌+◌, ◌*◌, ◌<◌, ◌≤◌, [], length, get_or, drop}
use Rattle.std.specs.List.{concat}
use Rattle.std.specs.List.Sorted.{IsPermutation}
use Rattle.tree_dp.specs.Orders.{key_at, IsHeapOver}
use Rattle.tree_dp.proofs.order.order_groups.Given as goal

abbrev pub invariant-loop-number : goal.invariant-loop-number
invariant-loop-number g l = record {
  group_count : length l.groups ≡ length l.initial.groups;
  same_rows : (n : ℕ) → IsPermutation (get_or l.initial.groups n []) (get_or l.groups n []);
  heaps : (n : ℕ) → n < l.number → IsHeapOver g.R.Rank.KEYS g.R.Rank.key l.best (get_or l.groups n []);
  least_count : length l.leasts.items ≡ l.number;
  leasts : (n : ℕ) → n < l.number → key_at g.R.Rank.KEYS g.R.Rank.key l.leasts.items n ≡ key_at g.R.Rank.KEYS g.R.Rank.key l.best (get_or (get_or l.groups n []) 0 0);
  counted : l.steps + 2 * length (concat (drop l.number l.initial.groups)) ≤ l.initial.steps + 2 * length (concat l.initial.groups);
}
