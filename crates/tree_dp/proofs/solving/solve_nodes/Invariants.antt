use Rattle.std.proofs.Common.{ℕ, ◌+◌, ◌-◌, ◌*◌, ◌≤◌, length, map}
use Rattle.tdp_model.specs.TreeProblem.{sum_from}
use Rattle.tdp_core.specs.TreeView.{tree_view, node_at, rows}
use Rattle.tree_dp.specs.Progress.{IsSolvedFrom, AreLeastsFrom}
use Rattle.tree_dp.specs.SolvedTrees.{IsReordered}
use Rattle.tree_dp.proofs.solving.solve_nodes.Given as goal

abbrev pub invariant-loop-node : goal.invariant-loop-node
invariant-loop-node g l =
    let before = tree_view l.initial.nodes in
    record {
      reordered : (v : ℕ) → IsReordered (node_at before v) (node_at (tree_view l.nodes) v);
      solved : IsSolvedFrom g.R.Rank.KEYS g.R.Rank.key (tree_view l.nodes) l.node;
      leasts : AreLeastsFrom g.R.Rank.KEYS g.R.Rank.key (tree_view l.nodes) l.node (map (λ ls. ls.items) l.leasts.items);
      counted : l.steps ≤ l.initial.steps + sum_from ◌+◌ 0 (rows before) (length before - l.node) l.node * (length l.initial.nodes + 2);
    }
