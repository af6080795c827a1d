-- What an engine over a plan has left before its first call, which is the list that is asked for.
use Rattle.std.proofs.Common.{◌≡◌, ◌≤◌, ℕ, List, length, map, Option, Some, None, sym, ap, subst, ◌∙◌, arith}
use Rattle.std.specs.List.{AllByRecursion}
use Rattle.anyk_model.specs.Table.{Table}
use Rattle.anyk_model.specs.Query.{IsCombination, row_counts}
use Rattle.anyk_model.specs.Ranking.{ranking_of}
use Rattle.anyk_model.proofs.Exists.{ranking_is}
use Rattle.engine_choice.proofs.Bests.{bests_agree_lem}
use Rattle.anyk_model.specs.BestList.{best_list, list_of}
use Rattle.anyk_model.proofs.Least.{best_ranking}
use Rattle.bound_query.specs.WeighedQuery.{BoundQuery}
use Rattle.tdp_model.specs.KeyTuple.{KeyOf}
use Rattle.tdp_core.specs.AnswerView.{AnswerView, answers_of}
use Rattle.tdp_core.specs.Solutions.{IsTreeRanking}
use Rattle.tdp_core.specs.WellFormed.{IsFormed}
use Rattle.tree_dp.specs.BestRanking.{IsBestRanking}
use Rattle.witness_key.specs.WitnessKey.{AreCombinations, answers_of_ranking, combinations_in, witness_key}
use Rattle.witness_key.proofs.Combinations.{combinations_all, combinations_told, members_combine}
use Rattle.plan_build.specs.Plan.{IsPlan, IsPlanAt, IsPlanFor, PlanView}
use Rattle.plan_build.proofs.AnswersAgree.{answers_agree}
use Rattle.engine_choice.specs.AskedList.{IsAskedList}

module _ {R : Type 0} (d : ℕ) (key : R → KeyOf d 16) (bound : BoundQuery) (tables : List Table) where
  few : (plan : PlanView R) → IsPlanFor d key bound tables plan → length bound.query.items ≤ 16
  few plan is = let small = is.ordered.few in let count = is.count in omega (arith, small, count)

  -- a list of combinations is left
  list_left : (best : Option ℕ) → length bound.query.items ≤ 16 → AllByRecursion (IsCombination (row_counts bound.query.items tables)) (list_of bound.query tables best)
      → (rest : List AnswerView) (ks : List (KeyOf d 16)) → ks ≡ map (witness_key d bound.query tables) (list_of bound.query tables best) → rest ≡ answers_of d ks
      → IsAskedList bound.query tables best rest
  list_left best small all rest ks keys left =
      let list : List (List ℕ) = list_of bound.query tables best in
      let same : rest ≡ answers_of_ranking d bound.query tables list = left ∙ answers_agree d bound.query tables list ks keys in
      record {
        list = ap (combinations_in bound.query) same ∙ combinations_told d bound.query tables small list all;
        rows = subst (AreCombinations bound.query tables) (sym same) (combinations_all d bound.query tables small list all);
      }

  -- the engines over all answers
  pub ranking_left : (plan : PlanView R) → IsPlan d key bound tables plan → (rest : List AnswerView) (ks : List (KeyOf d 16)) → IsTreeRanking plan.tree d key ks
      → rest ≡ answers_of d ks → IsAskedList bound.query tables None rest
  ranking_left plan is rest ks ranking left =
      let small = few plan is.whole in
      let all = members_combine d bound.query tables small (ranking_of bound.query tables) (ranking_is bound.query tables).sound in
      list_left None small all rest ks (is.whole.ranking ks ranking) left

  -- the engine over the best answer of each row of the root
  pub best_left : (item : ℕ) (plan : PlanView R) → IsPlanAt d key bound tables item plan → IsFormed d key plan.tree
      → (rest : List AnswerView) (ks : List (KeyOf d 16)) → IsBestRanking plan.tree d key ks → rest ≡ answers_of d ks → IsAskedList bound.query tables (Some item) rest
  best_left item plan is formed rest ks best left =
      let small = few plan is.whole in
      let all = members_combine d bound.query tables small (best_list item (ranking_of bound.query tables)) (λ rows m. ((best_ranking bound.query tables item).sound rows m).witness) in
      let keys = bests_agree_lem d key plan.tree formed is.whole.tie_free bound.query tables is.whole.keys small is.whole.ranking ks best in
      list_left (Some item) small all rest ks
      (subst (λ i. ks ≡ map (witness_key d bound.query tables) (best_list i (ranking_of bound.query tables))) is.root keys) left
