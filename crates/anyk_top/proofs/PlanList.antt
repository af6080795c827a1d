-- The structures of the queries, from their plans, and the steps of the preparation.
use Rattle.std.proofs.Common.{◌≡◌, ◌≤◌, ◌<◌, ◌+◌, ◌^◌, ◌∙◌, ℕ, Bool, true, false, List, [], ◌∷◌, ◌++◌, length, take, drop}
use Rattle.std.proofs.Common.{get_or, append_assoc, IfOk, IfSome, Result, Vec, Option, None, Some, Ok, Err, refl, sym, ap, subst, arith}
use Rattle.std.specs.Prelude.{IsErrAnd}
use Rattle.std.specs.Global.{Global}
use Rattle.std.specs.List.{All, AllByRecursion, sum_by}
use Rattle.std.proofs.lemmas.Bool.{lt-ltb}
use Rattle.std.proofs.lemmas.List.{length-map, length-take-le, map-append, take-append-drop, take_more}
use Rattle.std.proofs.lemmas.List.Elements.{All-from_recursion, All-weaker}
use Rattle.std.proofs.lemmas.List.Sums.{sum_by-cons, sum_by_more, sum_by_more_le}
use Rattle.std.proofs.lemmas.Slice.Zip.{AllZip-long, all_zipped_more}
use Rattle.std.proofs.Math.Seq.{take-length}
use Rattle.anyk_model.specs.Query.{Query}
use Rattle.anyk_model.specs.Table.{Table}
use Rattle.hyper_graph.specs.Items.{items_of}
use Rattle.plan_build.specs.Plan.{IsPlanOf, PlanView, shape_of}
use Rattle.plan_build.specs.Faults.{TellsFlaw}
use Rattle.plan_build.specs.RankedPlan.{IsRankedPlan, fixed_key, key_of_packed, key_of_wide_packed}
use Rattle.plan_build.specs.declared.fault.PlanFault.{PlanFault}
use Rattle.plan_build.specs.declared.fault.PlanFault.TheVariants as fault
use Rattle.plan_build.specs.declared.ranked_plan.RankedPlan.{RankedPlan}
use Rattle.plan_build.specs.declared.ranked_plan.RankedPlan.TheVariants.{Lex, MiddleSum, Packed, SmallLex, Sum, WidePacked}
use Rattle.plan_build.proofs.Rooted.{whole_of}
use Rattle.plan_build.proofs.ShapeIs.{plan_shape}
use Rattle.plan_build.specs.Plans.{ArePrepared, HavePlans, preparation_of}
use Rattle.node_build.specs.Nodes.{CapsBelow}
use Rattle.node_build.proofs.Shaped.{caps_small}
use Rattle.bound_query.specs.WeighedQuery.{BoundQuery, Fits}
use Rattle.bound_query.specs.Shape.{Flaw, IsShape, Shape, cyclic, too_many_rows}
use Rattle.refusals.specs.Reason.{Reason}
use Rattle.session_script.specs.declared.step.Step.{Step}
use Rattle.bound_query.specs.RunBounds.{IsPrepared}
use Rattle.tdp_model.specs.KeyTuple.{KeyOf}
use Rattle.anyk_model.specs.TaggedRows.{HaveKeys}
use Rattle.command_input.specs.Input.{InputView, loaded_of}
use Rattle.verdict.specs.Faults.{of_shape}
use Rattle.verdict.specs.AcceptedInput.{found_of, queries_in}
use Rattle.verdict.specs.Loading.{are_several}
use Rattle.verdict.specs.StageResults.{Pure}
use Rattle.verdict.specs.UnionBound.{HaveShapes}
use Rattle.verdict.specs.Verdict.{AreStructures, IsFlawed, IsShaped, IsStructure}
use Rattle.verdict.proofs.Staging.{pure_refused}
use Rattle.verdict.proofs.Structure.{shapes_found, structures_refused}
use Rattle.anyk_top.specs.Plans.{IsOnePlan, IsOnePlanOf, found_by, plan_reason, several_result_view, shape_in, shapes_of, shapes_result_view}
use Rattle.anyk_top.specs.declared.planning.Unplanned.{Unplanned}

-- # One query

plan_structured : {R : Type 0} (d : ℕ) (key : R → KeyOf d 16) (query : BoundQuery) (tables : List Table)
    (best : Option ℕ) (made : PlanView R)
    → IsPlanOf d key query tables best made → IsShape query.query tables (Ok (shape_of made))
plan_structured d key query tables best made is =
    plan_shape d key query tables made (whole_of d key query tables best made is)

pub planned_shown : (query : BoundQuery) (tables : List Table) (best : Option ℕ) (made : RankedPlan)
    → IsRankedPlan query tables best made
    → Pure (IsStructure None tables query.query) (Ok (shape_in made))
planned_shown query tables best (Packed made) is = plan_structured 1 key_of_packed query tables best made is
planned_shown query tables best (WidePacked made) is = plan_structured 1 key_of_wide_packed query tables best made is
planned_shown query tables best (MiddleSum made) is = plan_structured 1 (fixed_key 1 8) query tables best made is
planned_shown query tables best (Sum made) is = plan_structured 1 (fixed_key 1 16) query tables best made is
planned_shown query tables best (SmallLex made) is = plan_structured 2 (fixed_key 2 4) query tables best made is
planned_shown query tables best (Lex made) is = plan_structured 8 (fixed_key 8 16) query tables best made is

pub flawed_shown : (query : Query) (tables : List Table) (fault : PlanFault) → TellsFlaw query tables fault
    → Pure (IsStructure None tables query) (Err (plan_reason None fault))
flawed_shown query tables fault.NoMemory tells = tt
flawed_shown query tables (fault.Cyclic core) tells =
    record { flaw = cyclic (items_of core); is_flaw = tells; told = refl }
flawed_shown query tables (fault.TooManyRows most) tells =
    record { flaw = too_many_rows; is_flaw = tells.1; told = refl }

-- # Several queries

module _ {R : Type 0} (d : ℕ) (key : R → KeyOf d 16) (tables : List Table) where
  abbrev IsPlanned : BoundQuery → PlanView R → Type 0
  IsPlanned query plan = IsPlanOf d key query tables None plan

  pub plans_shaped : (queries : List BoundQuery) (plans : List (PlanView R)) → HavePlans d key tables queries plans
      → HaveShapes tables (queries_in queries) (shapes_of plans)
  plans_shaped [] [] h = tt
  plans_shaped [] (plan ∷ plans) h = absurd h
  plans_shaped (query ∷ queries) [] h = absurd h
  plans_shaped (query ∷ queries) (plan ∷ plans) h =
      (plan_structured d key query tables None plan h.0, plans_shaped queries plans h.1)

  refused_list : (before : List BoundQuery) (query : BoundQuery) (later : List BoundQuery) (plans : List (PlanView R))
      (place : ℕ) (flaw : Flaw)
      → HavePlans d key tables before plans → place ≡ 1 + length before → IsShape query.query tables (Err flaw)
      → AreStructures true 1 tables (queries_in (before ++ query ∷ later)) (Err (of_shape (Some place) flaw))
  refused_list before query later plans place flaw h at is =
      let flawed : IsFlawed (Some place) query.query tables (of_shape (Some place) flaw) =
      record { flaw = flaw; is_flaw = is; told = refl } in
      let count = length-map before (λ (q : BoundQuery). q.query) in
      subst (λ (qs : List Query). AreStructures true 1 tables qs (Err (of_shape (Some place) flaw)))
      (sym (map-append (λ (q : BoundQuery). q.query) before (query ∷ later)))
      (structures_refused true 1 place tables (queries_in before) query.query (queries_in later) (shapes_of plans)
      (of_shape (Some place) flaw)
      (plans_shaped before plans h) (omega (arith, at, count)) flawed)

  flawed_list : (before : List BoundQuery) (query : BoundQuery) (later : List BoundQuery) (plans : List (PlanView R))
      (place : ℕ) (fault : PlanFault)
      → HavePlans d key tables before plans → place ≡ 1 + length before → TellsFlaw query.query tables fault
      → Pure (AreStructures true 1 tables (queries_in (before ++ query ∷ later))) (Err (plan_reason (Some place) fault))
  flawed_list before query later plans place fault.NoMemory h at tells = tt
  flawed_list before query later plans place (fault.Cyclic core) h at tells =
      refused_list before query later plans place (cyclic (items_of core)) h at tells
  flawed_list before query later plans place (fault.TooManyRows most) h at tells =
      refused_list before query later plans place too_many_rows h at tells.1

  -- the plans of the first queries, and the steps of their preparation
  pub record HasPlanned (queries : List BoundQuery) (n : ℕ) (plans : List (PlanView R)) (before now : ℕ) : Type 0 where
    pub made : HavePlans d key tables (take n queries) plans
    pub count : length plans ≡ n
    pub cost : now ≤ before + sum_by (λ (q : BoundQuery). preparation_of tables q.query) (take n queries)

  -- memory was refused
  pub unplanned_memory : (G : Result (List Shape) Reason → Type 0) (r : Result (Vec (PlanView R) Global) Unplanned) → IsErrAnd r (λ u. u.fault ≡ fault.NoMemory)
      → Pure G (shapes_result_view r)
  unplanned_memory G (Ok plans) gives = absurd gives
  unplanned_memory G (Err unplanned) gives = rw gives tt

  pub unplanned_cost : (queries : List BoundQuery) (before : ℕ) → ArePrepared (queries_in queries) tables before before
  unplanned_cost queries before = omega arith

  pub planned_more : (queries : List BoundQuery) (n : ℕ) (plans : List (PlanView R)) (before now new : ℕ)
      (query : BoundQuery) (plan : PlanView R)
      → HasPlanned queries n plans before now → n < length queries → query ≡ get_or queries n query
      → IsPlanOf d key query tables None plan → IsPrepared query.query tables now new
      → HasPlanned queries (n + 1) (plans ++ plan ∷ []) before new
  planned_more queries n plans before now new query plan was inside at is cost =
      let taken : take (n + 1) queries ≡ take n queries ++ query ∷ [] =
      take_more queries n query inside ∙ ap (λ (q : BoundQuery). take n queries ++ q ∷ []) (sym at) in
      let more = all_zipped_more IsPlanned (take n queries) plans query plan was.made is in
      let all : HavePlans d key tables (take (n + 1) queries) (plans ++ plan ∷ []) =
      subst (λ (qs : List BoundQuery). HavePlans d key tables qs (plans ++ plan ∷ [])) (sym taken) more in
      let counted = AllZip-long IsPlanned (take (n + 1) queries) (plans ++ plan ∷ []) all in
      let length_taken = length-take-le (n + 1) queries (omega (arith, inside)) in
      let sum = sum_by_more (λ (q : BoundQuery). preparation_of tables q.query) queries n query inside in
      let own = ap (λ (q : BoundQuery). preparation_of tables q.query) at in
      let spent = was.cost in
      record { made = all; count = counted ∙ length_taken; cost = omega (arith, sum, own, spent, cost) }

  sum_queries : (queries : List BoundQuery)
      → sum_by (λ (q : BoundQuery). preparation_of tables q.query) queries ≡ sum_by (preparation_of tables)
      (queries_in queries)
  sum_queries [] = refl
  sum_queries (query ∷ queries) =
      let rest = sum_queries queries in
      let left = sum_by-cons (λ (q : BoundQuery). preparation_of tables q.query) query queries in
      let right = sum_by-cons (preparation_of tables) query.query (queries_in queries) in
      omega (arith, rest, left, right)

  pub all_planned : (queries : List BoundQuery) (n : ℕ) (plans : List (PlanView R)) (before now : ℕ)
      → HasPlanned queries n plans before now → n ≡ length queries
      → HavePlans d key tables queries plans
  all_planned queries n plans before now was at =
      subst (λ (qs : List BoundQuery). HavePlans d key tables qs plans)
      (ap (λ (k : ℕ). take k queries) at ∙ take-length queries) was.made

  pub all_prepared : (queries : List BoundQuery) (n : ℕ) (plans : List (PlanView R)) (before now : ℕ)
      → HasPlanned queries n plans before now → n ≡ length queries
      → ArePrepared (queries_in queries) tables before now
  all_prepared queries n plans before now was at =
      let whole = ap (λ (qs : List BoundQuery). sum_by (λ (q : BoundQuery). preparation_of tables q.query) qs)
      (ap (λ (k : ℕ). take k queries) at ∙ take-length queries) in
      let sum = sum_queries queries in
      let spent = was.cost in
      omega (arith, whole, sum, spent)

  -- after one more query
  pub some_prepared : (queries : List BoundQuery) (n : ℕ) (plans : List (PlanView R)) (before now new : ℕ)
      (query : BoundQuery)
      → HasPlanned queries n plans before now → n < length queries → query ≡ get_or queries n query
      → IsPrepared query.query tables now new
      → ArePrepared (queries_in queries) tables before new
  some_prepared queries n plans before now new query was inside at cost =
      let more = sum_by_more_le (λ (q : BoundQuery). preparation_of tables q.query) queries n query inside in
      let own = ap (λ (q : BoundQuery). preparation_of tables q.query) at in
      let sum = sum_queries queries in
      let spent = was.cost in
      omega (arith, more, own, sum, spent, cost)

  pub next_flawed : (queries : List BoundQuery) (n : ℕ) (plans : List (PlanView R)) (before now place : ℕ)
      (query : BoundQuery) (fault : PlanFault)
      → HasPlanned queries n plans before now → n < length queries → query ≡ get_or queries n query → place ≡ n + 1
      → TellsFlaw query.query tables fault
      → Pure (AreStructures true 1 tables (queries_in queries)) (Err (plan_reason (Some place) fault))
  next_flawed queries n plans before now place query fault was inside at is tells =
      let length_taken = length-take-le n queries (omega (arith, inside)) in
      let taken : take (n + 1) queries ≡ take n queries ++ query ∷ [] =
      take_more queries n query inside ∙ ap (λ (q : BoundQuery). take n queries ++ q ∷ []) (sym at) in
      let whole : take n queries ++ query ∷ drop (n + 1) queries ≡ queries =
      sym (append_assoc (take n queries) (query ∷ []) (drop (n + 1) queries)) ∙ ap
      (λ (l : List BoundQuery). l ++ drop (n + 1) queries) (sym taken) ∙ take-append-drop (n + 1) queries in
      subst (λ (qs : List BoundQuery). Pure (AreStructures true 1 tables (queries_in qs))
      (Err (plan_reason (Some place) fault))) whole
      (flawed_list (take n queries) query (drop (n + 1) queries) plans place fault was.made
      (omega (arith, is, length_taken)) tells)

-- # The queries of an input

pub one_found : (input : InputView) (query : BoundQuery) (shape : Shape) → input.queries ≡ query ∷ []
    → IsShape query.query input.tables (Ok shape)
    → IsShaped (loaded_of input) (Ok (found_of (loaded_of input) (shape ∷ [])))
one_found input query shape only is =
    shapes_found (loaded_of input) (shape ∷ [])
    (subst (λ (qs : List BoundQuery). HaveShapes input.tables (queries_in qs) (shape ∷ [])) (sym only) (is, tt))

pub one_refused : (input : InputView) (query : BoundQuery) (refusal : Reason) → input.queries ≡ query ∷ []
    → Pure (IsStructure None input.tables query.query) (Err refusal) → Pure (IsShaped (loaded_of input)) (Err refusal)
one_refused input query refusal only h =
    let loaded = λ (qs : List BoundQuery). loaded_of (record input { queries = qs }) in
    let first : Pure (AreStructures false 1 input.tables (query.query ∷ [])) (Err refusal) =
    pure_refused (IsStructure None input.tables query.query) _ refusal h in
    let whole : Pure (IsShaped (loaded (query ∷ []))) (Err refusal) =
    pure_refused (AreStructures false 1 input.tables (query.query ∷ [])) _ refusal first in
    subst (λ (qs : List BoundQuery). Pure (IsShaped (loaded qs)) (Err refusal)) (sym only) whole

pub several_found : {R : Type 0} (d : ℕ) (key : R → KeyOf d 16) (input : InputView) (plans : List (PlanView R))
    → HavePlans d key input.tables input.queries plans
    → IsShaped (loaded_of input) (Ok (found_of (loaded_of input) (shapes_of plans)))
several_found d key input plans have =
    shapes_found (loaded_of input) (shapes_of plans) (plans_shaped d key input.tables input.queries plans have)

pub several_refused : (input : InputView) (refusal : Reason) → 1 < length input.queries
    → Pure (AreStructures true 1 input.tables (queries_in input.queries)) (Err refusal)
    → Pure (IsShaped (loaded_of input)) (Err refusal)
several_refused input refusal more h =
    let count = length-map input.queries (λ (q : BoundQuery). q.query) in
    let several = lt-ltb 1 (length (queries_in input.queries)) (omega (arith, count, more)) in
    pure_refused (AreStructures (are_several (queries_in input.queries)) 1 input.tables (queries_in input.queries)) _
    refusal
    (subst (λ (b : Bool). Pure (AreStructures b 1 input.tables (queries_in input.queries)) (Err refusal))
    (sym several) h)

-- the plans of the queries, or the first refusal
pub several_shaped : {R : Type 0} (d : ℕ) (key : R → KeyOf d 16) (input : InputView) (r : Result (Vec (PlanView R) Global) Unplanned)
    → 1 < length input.queries → Pure (AreStructures true 1 input.tables (queries_in input.queries)) (shapes_result_view r)
    → IfOk r (λ plans. HavePlans d key input.tables input.queries plans.items)
    → Pure (IsShaped (loaded_of input)) (several_result_view (loaded_of input) r)
several_shaped d key input (Ok plans) more shaped have = several_found d key input plans.items have
several_shaped d key input (Err unplanned) more shaped have = several_refused input (plan_reason unplanned.branch unplanned.fault) more shaped

-- as many keys as the first one has
each_within : (keys most : ℕ) → keys ≤ most → (queries : List BoundQuery) → HaveKeys keys (queries_in queries)
    → AllByRecursion (λ (q : BoundQuery). length q.query.order ≤ most) queries
each_within keys most few [] have = tt
each_within keys most few (query ∷ queries) have = let own = have.0 in
    (omega (arith, own, few), each_within keys most few queries have.1)

pub keys_within : (keys most : ℕ) (queries : List BoundQuery) (first : BoundQuery)
    → HaveKeys keys (queries_in queries) → first ≡ get_or queries 0 first
    → 1 ≤ length queries → length first.query.order ≤ most
    → All (λ (q : BoundQuery). length q.query.order ≤ most) queries
keys_within keys most [] first have at some few = absurd (omega (arith, some))
keys_within keys most (query ∷ queries) first have at some few =
    let same = ap (λ (q : BoundQuery). length q.query.order) at in
    let own = have.0 in
    All-from_recursion (λ (q : BoundQuery). length q.query.order ≤ most) (query ∷ queries)
    (each_within keys most (omega (arith, same, own, few)) (query ∷ queries) have)

-- what is found of the one query
pub one_printed : (input : InputView) (query : BoundQuery) (script : List Step) (shape : Shape)
    → input.queries ≡ query ∷ [] → input.steps ≡ script
    → found_of (loaded_of input) (shape ∷ []) ≡ found_by query input.tables input.best script input.proof shape
one_printed input query script shape only steps =
    (λ i. record {
      queries = queries_in (only i);
      tables = input.tables;
      shapes = shape ∷ [];
      best = input.best;
      steps = steps i;
      proof = input.proof;
    })

pub one_cost : (input : InputView) (query : BoundQuery) → input.queries ≡ query ∷ [] → (before now : ℕ)
    → ArePrepared (queries_in input.queries) input.tables before now → IsPrepared query.query input.tables before now
one_cost input query only before now h =
    let own : ArePrepared (query.query ∷ []) input.tables before now =
    subst (λ (qs : List BoundQuery). ArePrepared (queries_in qs) input.tables before now) only h in
    let sum = sum_by-cons (preparation_of input.tables) query.query [] in
    omega (arith, own, sum)

pub one_prepared : (input : InputView) (query : BoundQuery) → input.queries ≡ query ∷ [] → (before now : ℕ)
    → IsPrepared query.query input.tables before now → ArePrepared (queries_in input.queries) input.tables before now
one_prepared input query only before now h =
    let sum = sum_by-cons (preparation_of input.tables) query.query [] in
    subst (λ (qs : List BoundQuery). ArePrepared (queries_in qs) input.tables before now) (sym only) (omega (arith, h, sum))

-- the one query has the item that each query has
pub one_item : (best : Option ℕ) (queries : List BoundQuery) (query : BoundQuery) → queries ≡ query ∷ []
    → IfSome best (λ item. AllByRecursion (λ (q : BoundQuery). item < length q.query.items) queries)
    → IfSome best (λ item. item < length query.query.items)
one_item None queries query only h = tt
one_item (Some item) queries query only h =
    (subst (AllByRecursion (λ (q : BoundQuery). item < length q.query.items)) only h).0

-- the plan of the one query
pub one_plan : (queries : List BoundQuery) (tables : List Table) (best : Option ℕ) (query : BoundQuery) → queries ≡ query ∷ []
    → (made : RankedPlan) → IsRankedPlan query tables best made → IsOnePlan queries tables best made
one_plan queries tables best query only (Packed made) h = record { query = query; only = only; is_plan = h }
one_plan queries tables best query only (WidePacked made) h = record { query = query; only = only; is_plan = h }
one_plan queries tables best query only (MiddleSum made) h = record { query = query; only = only; is_plan = h }
one_plan queries tables best query only (Sum made) h = record { query = query; only = only; is_plan = h }
one_plan queries tables best query only (SmallLex made) h = record { query = query; only = only; is_plan = h }
one_plan queries tables best query only (Lex made) h = record { query = query; only = only; is_plan = h }

-- the first query of an input that has one plan
module _ {R : Type 0} (d : ℕ) (key : R → KeyOf d 16) (input : InputView) (made : PlanView R) (query : BoundQuery)
    (is : IsOnePlanOf d key input.queries input.tables input.best made) (first : query ≡ get_or input.queries 0 query)
  where
    first_same : query ≡ is.query
    first_same = first ∙ ap (λ (l : List BoundQuery). get_or l 0 query) is.only

    pub first_planned : IsPlanOf d key query input.tables input.best made
    first_planned =
        subst (λ (q : BoundQuery). IsPlanOf d key q input.tables input.best made) (sym first_same) is.is_plan

    pub first_only : input.queries ≡ query ∷ []
    first_only = is.only ∙ ap (λ (q : BoundQuery). q ∷ []) (sym first_same)

-- the caps of each query add up to a sum that fits
pub caps_each : (tables : List Table) (queries : List BoundQuery) → All (λ (q : BoundQuery). Fits q tables) queries
    → All (λ (q : BoundQuery). CapsBelow (2 ^ 127) q tables) queries
caps_each tables queries fits =
    All-weaker (λ (q : BoundQuery). Fits q tables) (λ (q : BoundQuery). CapsBelow (2 ^ 127) q tables)
    (λ q fit. caps_small q tables fit) queries fits
