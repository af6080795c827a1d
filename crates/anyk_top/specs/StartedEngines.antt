-- The engines over several plans, before their first calls.
use Rattle.std.specs.Prelude.{◌≡◌, ◌+◌, ◌*◌, ℕ, List, None, length}
use Rattle.std.specs.List.{AllZip, sum_by}
use Rattle.anyk_model.specs.Table.{Table}
use Rattle.engine_choice.specs.Engines.{calls_of, rest_of, tree_of}
use Rattle.engine_choice.specs.declared.choice.ChosenEngine.{ChosenEngine}
use Rattle.plan_build.specs.Plan.{IsPlanOf, PlanView}
use Rattle.bound_query.specs.WeighedQuery.{BoundQuery}
use Rattle.tdp_model.specs.KeyTuple.{KeyOf}
use Rattle.tdp_core.specs.TreeView.{row_count}
use Rattle.engine_choice.specs.AskedList.{IsAskedList}

-- an engine over the plan that was not called yet, and has all answers of its query left
pub record IsStarted {R : Type 0} (d : ℕ) (key : R → KeyOf d 16) (plan : PlanView R)
    (engine : ChosenEngine R)
    : Type 0 where
  pub tree : tree_of engine ≡ plan.tree
  pub calls : calls_of engine ≡ 0
  pub asked : (bound : BoundQuery) (tables : List Table) → IsPlanOf d key bound tables None plan
      → IsAskedList bound.query tables None (rest_of d key engine)

-- an engine for each plan, in order
abbrev pub AreStarted : {R : Type 0} (d : ℕ) → (R → KeyOf d 16) → List (PlanView R)
    → List (ChosenEngine R) → Type 0
AreStarted d key plans engines = AllZip (IsStarted d key) plans engines

-- the most steps that making the engine of a plan may take
abbrev pub start_of : {R : Type 0} → PlanView R → ℕ
start_of plan = 16 * (length plan.tree * (1 + row_count plan.tree))

-- and those of all engines
abbrev pub starts_of : {R : Type 0} → List (PlanView R) → ℕ
starts_of plans = sum_by start_of plans
