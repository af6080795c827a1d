use Rattle.std.proofs.Common.{◌≡◌, ℕ, ◌+◌, ◌*◌, ◌<◌, ◌≤◌, length, get_or, take}
use Rattle.tdp_model.specs.KeyTuple.{slot_of}
use Rattle.tdp_core.specs.TreeView.{rows, best}
use Rattle.tree_dp.proofs.FirstWalk.{least_with, key_of_rows}
use Rattle.tree_dp.proofs.first_answer.best_rows.Given as goal

abbrev pub invariant-loop-node : goal.invariant-loop-node
invariant-loop-node g l =
    let d = g.R.Rank.KEYS in
    let key = g.R.Rank.key in
    let t = l.tree in
    record {
      chosen_long : length l.chosen ≡ 16;
      rows_long : length l.rows ≡ 16;
      reached : (q : ℕ) → q < l.node → get_or l.chosen q 0 < rows t q;
      least : least_with d key t (take l.node l.chosen) ≡ best t d key 0 l.fn.row;
      slots : (i : ℕ) → i < 16 → get_or l.rows i 0 ≡ slot_of d 16 i (key_of_rows d key t (take l.node l.chosen));
      counted : l.steps + 3 ≤ l.initial.steps + 3 * l.node;
    }
