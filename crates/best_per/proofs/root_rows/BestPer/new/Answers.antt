use Rattle.std.proofs.Common.{◌+◌, ◌*◌, ◌≤◌, ℕ, length, refl, arith}
use Rattle.std.proofs.lemmas.Result.{IfOk-from_err}
use Rattle.tdp_core.specs.TreeView.{row_count}
use Rattle.best_per.specs.RootHeap.{rest_keys}
use Rattle.best_per.proofs.root_rows.BestPer.new.Goals as goal

three_of_sixteen : (before after m n : ℕ) → after ≤ before + 3 * m → after ≤ before + 16 * (m * (1 + n))
three_of_sixteen before after m n h = omega arith

pub returns-in_err-queue : goal.returns-in_err-queue
returns-in_err-queue g c =
    record {
      tree = IfOk-from_err c.from_residual.result _ c.from_residual.ensures.0;
      calls = IfOk-from_err c.from_residual.result _ c.from_residual.ensures.0;
      best = IfOk-from_err c.from_residual.result _ c.from_residual.ensures.0;
      cost = three_of_sixteen c.args.steps.now c.first_queue.new.steps (length c.args.tree.now) (row_count c.args.tree.now) c.first_queue.ensures.cost;
    }

pub returns : goal.returns
returns g c =
    record {
      tree = refl;
      calls = refl;
      best = (rest_keys g.R.Rank.KEYS g.R.Rank.key c.args.tree.now c.in_ok-queue.queue.entries, c.in_ok-queue.ensures.best, refl);
      cost = three_of_sixteen c.args.steps.now c.first_queue.new.steps (length c.args.tree.now) (row_count c.args.tree.now) c.first_queue.ensures.cost;
    }
