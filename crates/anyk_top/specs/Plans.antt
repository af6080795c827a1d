-- The plans of an accepted input, as the verdict sees them.
use Rattle.std.specs.Prelude.{◌≡◌, ◌<◌, ℕ, List, [], ◌∷◌, length, map}
use Rattle.std.specs.Prelude.{Option, Result, Ok, Err, Vec}
use Rattle.std.specs.Global.{Global}
use Rattle.anyk_model.specs.Table.{Table}
use Rattle.hyper_graph.specs.Items.{items_of}
use Rattle.plan_build.specs.Plan.{IsPlanOf, PlanView, shape_of}
use Rattle.plan_build.specs.Plans.{HavePlans}
use Rattle.plan_build.specs.RankedPlan.{fixed_key, key_of_packed, key_of_wide_packed}
use Rattle.plan_build.specs.declared.fault.PlanFault.{PlanFault}
use Rattle.plan_build.specs.declared.fault.PlanFault.TheVariants as fault
use Rattle.plan_build.specs.declared.ranked_plan.RankedPlan.{RankedPlan}
use Rattle.plan_build.specs.declared.ranked_plan.RankedPlan.TheVariants.{Lex, MiddleSum, Packed, SmallLex, Sum, WidePacked}
use Rattle.bound_query.specs.WeighedQuery.{BoundQuery}
use Rattle.bound_query.specs.Shape.{Shape}
use Rattle.proof_model.specs.Certificate.{Certificate}
use Rattle.session_script.specs.declared.step.Step.{Step}
use Rattle.tdp_model.specs.KeyTuple.{KeyOf}
use Rattle.refusals.specs.declared.refusal.Refusal.{Refusal}
use Rattle.refusals.specs.Reason as reason
use Rattle.refusals.specs.Reason.{Reason}
use Rattle.refusals.specs.RefusalReasons.{reason_of}
use Rattle.command_input.specs.Input.{InputView}
use Rattle.verdict.specs.AcceptedInput.{AcceptedInput, found_of}
use Rattle.verdict.specs.Loading.{Loaded}
use Rattle.anyk_top.specs.declared.planning.Unplanned.{Unplanned}
use Rattle.anyk_top.specs.declared.planning.Plans.{Plans}
use Rattle.anyk_top.specs.declared.planning.Plans.TheVariants.{One, PackedSums, WidePackedSums, MiddleSums, Sums, Lexes}

-- ---- the structures that plans show

-- the join tree of a plan, with the numbers of its node rows
abbrev pub shape_in : RankedPlan → Shape
shape_in (Packed made) = shape_of made
shape_in (WidePacked made) = shape_of made
shape_in (MiddleSum made) = shape_of made
shape_in (Sum made) = shape_of made
shape_in (SmallLex made) = shape_of made
shape_in (Lex made) = shape_of made

-- that of each plan
abbrev pub shapes_of : {R : Type 0} → List (PlanView R) → List Shape
shapes_of plans = map shape_of plans

abbrev pub shapes_in : Plans → List Shape
shapes_in (One made) = shape_in made ∷ []
shapes_in (PackedSums plans) = shapes_of plans.items
shapes_in (WidePackedSums plans) = shapes_of plans.items
shapes_in (MiddleSums plans) = shapes_of plans.items
shapes_in (Sums plans) = shapes_of plans.items
shapes_in (Lexes plans) = shapes_of plans.items

-- what is known of a query, its tables, the item whose rows are asked for, a script and a
-- certificate, with the structure of the query
abbrev pub found_by : BoundQuery → List Table → Option ℕ → List Step → Certificate → Shape → AcceptedInput
found_by query tables best steps proof shape = record {
  queries = query.query ∷ [];
  tables = tables;
  shapes = shape ∷ [];
  best = best;
  steps = steps;
  proof = proof;
}

abbrev pub planned_result_view : Loaded → Result Plans Refusal → Result AcceptedInput Reason
planned_result_view loaded (Ok plans) = Ok (found_of loaded (shapes_in plans))
planned_result_view loaded (Err refusal) = Err (reason_of refusal)

-- the branch is told if there are several
abbrev pub plan_reason : Option ℕ → PlanFault → Reason
plan_reason branch (fault.Cyclic core) = reason.Cyclic branch (items_of core)
plan_reason branch (fault.TooManyRows most) = reason.TooManyNodeRows
plan_reason branch fault.NoMemory = reason.NoMemory

abbrev pub shapes_result_view : {R : Type 0} → Result (Vec (PlanView R) Global) Unplanned
    → Result (List Shape) Reason
shapes_result_view (Ok plans) = Ok (shapes_of plans.items)
shapes_result_view (Err unplanned) = Err (plan_reason unplanned.branch unplanned.fault)

abbrev pub several_result_view : {R : Type 0} → Loaded
    → Result (Vec (PlanView R) Global) Unplanned → Result AcceptedInput Reason
several_result_view loaded (Ok plans) = Ok (found_of loaded (shapes_of plans.items))
several_result_view loaded (Err unplanned) = Err (plan_reason unplanned.branch unplanned.fault)

abbrev pub plans_result_view : Loaded → Result Plans Unplanned → Result AcceptedInput Reason
plans_result_view loaded (Ok plans) = Ok (found_of loaded (shapes_in plans))
plans_result_view loaded (Err unplanned) = Err (plan_reason unplanned.branch unplanned.fault)

-- ---- the plans of the queries

-- the plan of the one query
pub record IsOnePlanOf {R : Type 0} (d : ℕ) (key : R → KeyOf d 16) (queries : List BoundQuery)
    (tables : List Table) (best : Option ℕ) (made : PlanView R)
    : Type 0 where
  pub query : BoundQuery
  pub only : queries ≡ query ∷ []
  pub is_plan : IsPlanOf d key query tables best made

-- the same with the ranks that its order needs
abbrev pub IsOnePlan : List BoundQuery → List Table → Option ℕ → RankedPlan → Type 0
IsOnePlan queries tables best (Packed made) = IsOnePlanOf 1 key_of_packed queries tables best made
IsOnePlan queries tables best (WidePacked made) =
    IsOnePlanOf 1 key_of_wide_packed queries tables best made
IsOnePlan queries tables best (MiddleSum made) =
    IsOnePlanOf 1 (fixed_key 1 8) queries tables best made
IsOnePlan queries tables best (Sum made) = IsOnePlanOf 1 (fixed_key 1 16) queries tables best made
IsOnePlan queries tables best (SmallLex made) =
    IsOnePlanOf 2 (fixed_key 2 4) queries tables best made
IsOnePlan queries tables best (Lex made) = IsOnePlanOf 8 (fixed_key 8 16) queries tables best made

-- the plans of the queries of an input, of which there are several
abbrev pub AreSeveral : {R : Type 0} (d : ℕ) → (R → KeyOf d 16) → InputView → List (PlanView R)
    → Type 0
AreSeveral d key input plans = (1 < length input.queries)
    × HavePlans d key input.tables input.queries plans

-- the plans of the queries of an input: of one query with the item that is named, and of several by
-- one rank type
abbrev pub ArePlans : InputView → Plans → Type 0
ArePlans input (One made) = IsOnePlan input.queries input.tables input.best made
ArePlans input (PackedSums plans) = AreSeveral 1 key_of_packed input plans.items
ArePlans input (WidePackedSums plans) = AreSeveral 1 key_of_wide_packed input plans.items
ArePlans input (MiddleSums plans) = AreSeveral 1 (fixed_key 1 8) input plans.items
ArePlans input (Sums plans) = AreSeveral 1 (fixed_key 1 16) input plans.items
ArePlans input (Lexes plans) = AreSeveral 8 (fixed_key 8 16) input plans.items
