use Rattle.std.proofs.Common.{◌≡◌, ◌∙◌, List, Option, Some, None, ℕ, subst, sym}
use Rattle.std.proofs.lemmas.Result.{IfOk-weaker}
use Rattle.engine_choice.specs.Engines.{rest_of}
use Rattle.plan_build.specs.Plan.{IsPlanOf}
use Rattle.tdp_core.specs.Solutions.{IsTreeRanking}
use Rattle.tdp_core.specs.TreeView.{NodeView}
use Rattle.tdp_core.specs.WellFormed.{IsFormed}
use Rattle.tree_dp.specs.BestRanking.{IsBestRanking}
use Rattle.engine_choice.proofs.Left.{best_left, ranking_left}
use Rattle.engine_choice.proofs.engine.engine_over.Goals as goal

pub returns-in-None : goal.returns-in-None
returns-in-None g c =
    let d = g.R.Rank.KEYS in let key = g.R.Rank.key in let plan = c.args.plan.now in
    record {
      kind = rw c.in-None.is (rw (sym c.kind_of.ensures.kind) c.choose_engine.ensures.kind);
      tree = rw c.tree-tree.ensures at c.choose_engine.ensures.tree;
      calls = c.choose_engine.ensures.calls;
      asked = λ bound tables is.
          let P : Option ℕ → Type 0 = λ best. IsPlanOf d key bound tables best plan in
          rw c.in-None.is
          (IfOk-weaker c.choose_engine.result _ _
          (λ e ranking.
          let of_plan = subst (λ (t : List (NodeView g.row.R.Denot)). IsTreeRanking t d key ranking.0) c.tree-tree.ensures ranking.1 in
          ranking_left d key bound tables plan (subst P c.in-None.is is) (rest_of d key e) ranking.0 of_plan ranking.2)
          c.choose_engine.ensures.ranking);
      ranking = λ none.
          IfOk-weaker c.choose_engine.result _ _
          (λ e ranking. (
            ranking.0,
            subst (λ (t : List (NodeView g.row.R.Denot)). IsTreeRanking t d key ranking.0) c.tree-tree.ensures ranking.1,
            ranking.2,
          ))
          c.choose_engine.ensures.ranking;
      cost = rw c.tree-tree.ensures at c.choose_engine.ensures.cost;
    }

some_none : {A : Type 0} {item : ℕ} → ◌≡◌ {A = Option ℕ} (Some item) None → A
some_none e = cc

pub returns-in-Some : goal.returns-in-Some
returns-in-Some g c =
    let d = g.R.Rank.KEYS in let key = g.R.Rank.key in let plan = c.args.plan.now in
    record {
      kind = rw c.in-Some.is c.best_engine.ensures.kind;
      tree = rw c.tree-tree.ensures at c.best_engine.ensures.tree;
      calls = c.best_engine.ensures.calls;
      asked = λ bound tables is.
          let P : Option ℕ → Type 0 = λ best. IsPlanOf d key bound tables best plan in
          let at = subst P c.in-Some.is is in
          let formed : IsFormed d key plan.tree = subst (λ (t : List (NodeView g.row.R.Denot)). IsFormed d key t) c.tree-tree.ensures c.nodes-nodes.ensures.formed in
          rw c.in-Some.is
          (IfOk-weaker c.best_engine.result _ _
          (λ e best.
          let of_plan = subst (λ (t : List (NodeView g.row.R.Denot)). IsBestRanking t d key best.0) c.tree-tree.ensures best.1 in
          best_left d key bound tables c.in-Some.field-0 plan at formed (rest_of d key e) best.0 of_plan best.2)
          c.best_engine.ensures.best);
      ranking = λ none. some_none (sym c.in-Some.is ∙ none);
      cost = rw c.tree-tree.ensures at c.best_engine.ensures.cost;
    }
