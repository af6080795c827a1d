use Rattle.std.proofs.Common.{◌≡◌, ℕ, suc, ◌+◌, ◌-◌, ◌*◌, ◌<◌, ◌≤◌, length}
use Rattle.tdp_model.specs.KeyTuple.{key_below, key_add, key_none}
use Rattle.tdp_model.proofs.KeyTuples.{tuple_keys}
use Rattle.tdp_core.specs.TreeView.{tree_view, parent, kids_below, group, rank, rows, best}
use Rattle.tree_dp.specs.Orders.{key_at}
use Rattle.tree_dp.proofs.FirstParts.{first_part}
use Rattle.tree_dp.proofs.bests.bests_of.Given as goal

abbrev pub invariant-loop-child : goal.invariant-loop-child
invariant-loop-child g l =
    let d = g.R.Rank.KEYS in
    let key = g.R.Rank.key in
    let t = tree_view l.nodes in
    record {
      long : length l.bests.items ≡ rows t l.node;
      placed : l.place ≡ kids_below (parent t) l.node l.child;
      added : (r : ℕ) → r < rows t l.node → key_at d key l.bests.items r
          ≡ first_part (key_below d 16) (key_add d 16) (key_none d 16) (tuple_keys d 16) (length t) (parent t) (rank t d key) (group t) (best t d key) l.node r (l.child - suc l.node);
      counted : l.steps ≤ l.initial.steps + rows t l.node * (l.child - suc l.node);
    }
