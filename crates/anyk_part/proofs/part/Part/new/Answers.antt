use Rattle.std.proofs.Common.{ℕ, ◌+◌, ◌*◌, ◌≤◌, List, length, ap, arith}
use Rattle.std.proofs.lemmas.Result.{IfOk-from_err}
use Rattle.stream_store.specs.declared.linked.Linked.{Linked}
use Rattle.tdp_model.specs.Regions.{Region}
use Rattle.tdp_core.specs.AnswerView.{answers_of}
use Rattle.tdp_core.specs.TreeView.{row_count}
use Rattle.anyk_part.specs.declared.candidate.Link.{Link}
use Rattle.anyk_part.specs.Regions.{rest_keys, regions_of}
use Rattle.anyk_part.proofs.Queues.{regions_seen}
use Rattle.anyk_part.proofs.part.Part.new.Goals as goal

three_of_sixteen : (before after m n : ℕ) → after ≤ before + 3 * m → after ≤ before + 16 * (m * (1 + n))
three_of_sixteen before after m n h = omega arith

pub returns-in_err-queue : goal.returns-in_err-queue
returns-in_err-queue g c = record {
  tree = IfOk-from_err c.from_residual-in_err-queue.result _ c.from_residual-in_err-queue.ensures.0;
  calls = IfOk-from_err c.from_residual-in_err-queue.result _ c.from_residual-in_err-queue.ensures.0;
  ranking = IfOk-from_err c.from_residual-in_err-queue.result _ c.from_residual-in_err-queue.ensures.0;
  cost = three_of_sixteen c.args.steps.now c.first_queue.new.steps (length c.args.tree.now) (row_count c.args.tree.now) c.first_queue.ensures.cost;
}

pub invariant_of-result : goal.invariant_of-result
invariant_of-result g c = ((c.in_ok-queue.ensures.part c.new-links.result.entries).0, c.child_places.ensures)

pub returns-clause-ranking : goal.returns-clause-ranking
returns-clause-ranking g c =
    let t = c.args.tree.now in
    let links : List (Linked Link) = c.new-links.result.entries in (
      rest_keys g.R.Rank.KEYS g.R.Rank.key t (regions_of links (length t) c.in_ok-queue.queue.entries),
      (c.in_ok-queue.ensures.part links).1,
      ap (λ (rs : List Region). answers_of g.R.Rank.KEYS (rest_keys g.R.Rank.KEYS g.R.Rank.key t rs)) (regions_seen links (length t) c.in_ok-queue.queue.entries),
    )

pub returns-clause-cost : goal.returns-clause-cost
returns-clause-cost g c = three_of_sixteen c.args.steps.now c.first_queue.new.steps (length c.args.tree.now) (row_count c.args.tree.now) c.first_queue.ensures.cost

pub returns-in_err-clone : goal.returns-in_err-clone
returns-in_err-clone g c =
    let r = c.from_residual.result in let e = c.from_residual.ensures.0 in
    record { tree = IfOk-from_err r _ e; calls = IfOk-from_err r _ e; ranking = IfOk-from_err r _ e; cost = omega arith }
