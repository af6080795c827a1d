use Rattle.std.proofs.Common.{◌≡◌, ℕ, ◌+◌, ◌<◌, ◌≤◌, length}
use Rattle.tree_dp.specs.Orders.{joined_at, key_at}
use Rattle.tree_dp.proofs.bests.add_leasts.Given as goal

abbrev pub invariant-loop-row : goal.invariant-loop-row
invariant-loop-row g l =
    let d = g.R.Rank.KEYS in
    let key = g.R.Rank.key in
    record {
      long : length l.bests.items ≡ length l.initial.bests.items;
      done : (r : ℕ) → r < l.row → key_at d key l.bests.items r ≡ joined_at d key l.initial.bests.items l.named.rows l.child l.leasts r;
      rest : (r : ℕ) → l.row ≤ r → key_at d key l.bests.items r ≡ key_at d key l.initial.bests.items r;
      counted : l.steps ≤ l.initial.steps + l.row;
    }
