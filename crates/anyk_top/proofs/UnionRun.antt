-- The union that engines over the plans of several queries have left, and the steps of its members.
use Rattle.std.proofs.Common.{◌≡◌, ◌≤◌, ◌<◌, ◌+◌, ◌-◌, ◌*◌, ◌∙◌, ℕ, zero, suc, List, [], ◌∷◌, ◌++◌, length, map, take}
use Rattle.std.proofs.Common.{get_or, inl, inr, None, Ok, refl, sym, ap, subst, arith}
use Rattle.std.specs.List.{All, sum_by}
use Rattle.std.proofs.lemmas.List.{length-take-le, take_more}
use Rattle.std.proofs.lemmas.List.Elements.{All-cons, All-nil, All-tail, All-head}
use Rattle.std.proofs.lemmas.List.Sums.{sum_by-cons, sum_by_more, sum_by_more_le}
use Rattle.std.proofs.lemmas.Slice.Zip.{AllZip-long, all_zipped_more}
use Rattle.std.proofs.Math.Seq.{take-length}
use Rattle.anyk_model.specs.Query.{Query}
use Rattle.anyk_model.specs.Ranking.{ranking_of}
use Rattle.anyk_model.specs.Table.{Table}
use Rattle.command_output.specs.UnionSteps.{AreMembers, IsMember as IsUnionMember, steps_from}
use Rattle.engine_choice.specs.Engines.{calls_of, rest_of, tree_of}
use Rattle.engine_choice.specs.declared.choice.ChosenEngine.{ChosenEngine}
use Rattle.plan_build.specs.Plan.{IsPlanOf, PlanView}
use Rattle.plan_build.proofs.ShapeIs.{rows_counted}
use Rattle.plan_build.proofs.Rooted.{whole_of}
use Rattle.plan_build.specs.Plans.{ArePrepared, HavePlans, preparation_of}
use Rattle.bound_query.specs.WeighedQuery.{BoundQuery, Fits}
use Rattle.bound_query.specs.Shape.{IsShape, Shape}
use Rattle.rankings.specs.Order.{IsMember}
use Rattle.bound_query.specs.RunBounds.{cost_over}
use Rattle.bound_query.specs.Steps.{steps_for}
use Rattle.tdp_core.specs.RisingShares.{shares_rise}
use Rattle.tdp_core.specs.AnswerView.{counted}
use Rattle.tdp_core.specs.Shares.{share_of, size_of}
use Rattle.tdp_core.specs.WellFormed.{IsTieFreeTree}
use Rattle.tdp_model.specs.KeyTuple.{KeyOf}
use Rattle.union_all.specs.Merge.{AreBegun, EngineView, HasCalled, rests_of}
use Rattle.anyk_model.specs.TaggedRows.{Tagged, branch_at}
use Rattle.anyk_model.specs.Union.{left_of, members_in, union_of}
use Rattle.anyk_model.proofs.Unions.{rankings_union, union_is}
use Rattle.verdict.specs.AcceptedInput.{queries_in}
use Rattle.verdict.specs.UnionBound.{HaveShapes, union_cost}
use Rattle.anyk_top.specs.StartedEngines.{AreStarted, IsStarted, start_of, starts_of}
use Rattle.anyk_top.proofs.Prepared.{union_prepared}
use Rattle.engine_choice.proofs.RunBounds.{called, started}

-- # Engines one after another

module _ {R : Type 0} (d : ℕ) (key : R → KeyOf d 16) where
  -- the engines over the first plans, and the steps that they took
  pub record HasStarted (plans : List (PlanView R)) (n : ℕ) (engines : List (ChosenEngine R)) (before now : ℕ) : Type
      0 where
    pub started : AreStarted d key (take n plans) engines
    pub count : length engines ≡ n
    pub cost : now ≤ before + starts_of (take n plans)

  pub none_started : (plans : List (PlanView R)) (before : ℕ) → HasStarted plans 0 [] before before
  none_started plans before = record { started = tt; count = refl; cost = omega arith }

  pub started_more : (plans : List (PlanView R)) (n : ℕ) (engines : List (ChosenEngine R)) (before now new : ℕ)
      (plan : PlanView R) (engine : ChosenEngine R)
      → HasStarted plans n engines before now → n < length plans → plan ≡ get_or plans n plan
      → IsStarted d key plan engine → new ≤ now + start_of plan
      → HasStarted plans (n + 1) (engines ++ engine ∷ []) before new
  started_more plans n engines before now new plan engine was inside at is cost =
      let taken : take (n + 1) plans ≡ take n plans ++ plan ∷ [] =
      take_more plans n plan inside ∙ ap (λ (p : PlanView R). take n plans ++ p ∷ []) (sym at) in
      let more = all_zipped_more (IsStarted d key) (take n plans) engines plan engine was.started is in
      let all : AreStarted d key (take (n + 1) plans) (engines ++ engine ∷ []) =
      subst (λ (ps : List (PlanView R)). AreStarted d key ps (engines ++ engine ∷ [])) (sym taken) more in
      let count = AllZip-long (IsStarted d key) (take (n + 1) plans) (engines ++ engine ∷ []) all in
      let length_taken = length-take-le (n + 1) plans (omega (arith, inside)) in
      let sum = sum_by_more (start_of {R = R}) plans n plan inside in
      let own = ap (start_of {R = R}) at in
      let spent = was.cost in
      record { started = all; count = count ∙ length_taken; cost = omega (arith, sum, own, spent, cost) }

  pub all_started : (plans : List (PlanView R)) (n : ℕ) (engines : List (ChosenEngine R)) (before now : ℕ)
      → HasStarted plans n engines before now
      → n ≡ length plans → AreStarted d key plans engines
  all_started plans n engines before now was at =
      subst (λ (ps : List (PlanView R)). AreStarted d key ps engines)
      (ap (λ (k : ℕ). take k plans) at ∙ take-length plans) was.started

  pub all_spent : (plans : List (PlanView R)) (n : ℕ) (engines : List (ChosenEngine R)) (before now : ℕ)
      → HasStarted plans n engines before now
      → n ≡ length plans → now ≤ before + starts_of plans
  all_spent plans n engines before now was at =
      let whole = ap (λ (ps : List (PlanView R)). starts_of ps) (ap (λ (k : ℕ). take k plans) at ∙ take-length plans) in
      let spent = was.cost in
      omega (arith, whole, spent)

  -- after one more engine
  pub some_spent : (plans : List (PlanView R)) (n : ℕ) (engines : List (ChosenEngine R)) (before now new : ℕ)
      (plan : PlanView R)
      → HasStarted plans n engines before now → n < length plans → plan ≡ get_or plans n plan
      → new ≤ now + start_of plan → new ≤ before + starts_of plans
  some_spent plans n engines before now new plan was inside at cost =
      let more = sum_by_more_le (start_of {R = R}) plans n plan inside in
      let own = ap (start_of {R = R}) at in
      let spent = was.cost in
      omega (arith, more, own, spent, cost)

  module _ (tables : List Table) where
    pub tie_free_lem : (queries : List BoundQuery) (plans : List (PlanView R)) → HavePlans d key tables queries plans
        → All (λ (p : PlanView R). IsTieFreeTree p.tree) plans
    tie_free_lem [] [] h = All-nil (λ (p : PlanView R). IsTieFreeTree p.tree)
    tie_free_lem [] (plan ∷ plans) h = absurd h
    tie_free_lem (query ∷ queries) [] h = absurd h
    tie_free_lem (query ∷ queries) (plan ∷ plans) h =
        All-cons (λ (p : PlanView R). IsTieFreeTree p.tree) plan plans
        (whole_of d key query tables None plan h.0).tie_free (tie_free_lem queries plans h.1)

    pub engines_same : (queries : List BoundQuery) (plans : List (PlanView R)) (engines : List (ChosenEngine R))
        → HavePlans d key tables queries plans
        → AreStarted d key plans engines → length engines ≡ length queries
    engines_same queries plans engines have started =
        AllZip-long (IsStarted d key) plans engines started
        ∙ AllZip-long (λ (q : BoundQuery) (p : PlanView R). IsPlanOf d key q tables None p) queries plans have

    -- # What is left

    pub rests_are : (queries : List BoundQuery) (plans : List (PlanView R)) (engines : List (ChosenEngine R))
        → HavePlans d key tables queries plans
        → AreStarted d key plans engines
        → rests_of (rest_of d key) (queries_in queries) engines ≡ map (λ query. ranking_of query tables)
        (queries_in queries)
    rests_are [] plans engines have started = refl
    rests_are (query ∷ queries) [] engines have started = absurd have
    rests_are (query ∷ queries) (plan ∷ plans) [] have started = absurd started
    rests_are (query ∷ queries) (plan ∷ plans) (engine ∷ engines) have started =
        let first = (started.0.asked query tables have.0).list in
        let rest = rests_are queries plans engines have.1 started.1 in
        (λ i. first i ∷ rest i)

    pub union_left : (queries : List BoundQuery) (plans : List (PlanView R)) (engines : List (ChosenEngine R))
        → HavePlans d key tables queries plans
        → AreStarted d key plans engines
        → left_of (queries_in queries) tables (rests_of (rest_of d key) (queries_in queries) engines) ≡ union_of
        (queries_in queries) tables
    union_left queries plans engines have started =
        ap (left_of (queries_in queries) tables) (rests_are queries plans engines have started) ∙ rankings_union
        (queries_in queries) tables

    -- # The steps

    abbrev due_of : ChosenEngine R → ℕ
    due_of e = share_of (size_of (tree_of e)) (calls_of e)

    abbrev seen_of : ChosenEngine R → EngineView
    seen_of e = record { calls = calls_of e; due = due_of e; size = size_of (tree_of e) }

    counted_none : (n : ℕ) → n ≡ 0 → counted n ≡ 1
    counted_none n e = ap counted e

    -- the first call, and one for each member
    calls_within : (size : List ℕ) (m : ℕ)
        → share_of size 0 + steps_for (λ n. share_of size (1 + n)) m ≤ steps_for (λ n. share_of size (0 + n)) (m + 1)
    calls_within size zero =
        let first = ap (share_of size) (let e : 0 ≡ 0 + (zero + 1 - 1) = omega arith in e) in
        let one : (zero + 1) * share_of size (0 + (zero + 1 - 1)) ≡ share_of size (0 + (zero + 1 - 1)) = omega arith in
        omega (arith, first, one)
    calls_within size (suc m) =
        let last = ap (share_of size) (let e : 1 + (suc m - 1) ≡ 0 + (suc m + 1 - 1) = omega arith in e) in
        let more = shares_rise size 0 (0 + (suc m + 1 - 1)) (omega arith) in
        let same : suc m * share_of size (1 + (suc m - 1)) ≡ suc m * share_of size (0 + (suc m + 1 - 1)) =
        ap (λ (x : ℕ). suc m * x) last in
        let whole : (suc m + 1) * share_of size (0 + (suc m + 1 - 1)) ≡ share_of size (0 + (suc m + 1 - 1)) + suc m *
        share_of size (0 + (suc m + 1 - 1)) = omega arith in
        omega (arith, more, same, whole)

    -- one branch with m members
    one_branch : (query : BoundQuery) (plan : PlanView R) (engine : ChosenEngine R) (new : EngineView) (shape : Shape)
        (m : ℕ) → Fits query tables
        → IsPlanOf d key query tables None plan → IsStarted d key plan engine → HasCalled (seen_of engine) new
        → IsShape query.query tables (Ok shape)
        → preparation_of tables query.query + start_of plan + due_of engine + steps_for
        (λ n. share_of new.size (new.calls + n)) m
        ≤ cost_over query.query tables shape (m + 1)
    one_branch query plan engine new shape m fits is was begun has =
        let whole = whole_of d key query tables None plan is in
        let rows = rows_counted d key query tables plan whole shape has in
        let size : new.size ≡ size_of plan.tree = begun.size ∙ ap size_of was.tree in
        let calls : new.calls ≡ 1 = begun.calls ∙ counted_none (calls_of engine) was.calls in
        let due : due_of engine ≡ share_of (size_of plan.tree) 0 =
        (λ i. share_of (size_of (was.tree i)) (was.calls i)) in
        let steps : steps_for (λ n. share_of new.size (new.calls + n)) m ≡ steps_for
        (λ n. share_of (size_of plan.tree) (1 + n)) m =
        (λ i. steps_for (λ n. share_of (size i) (calls i + n)) m) in
        let within = calls_within (size_of plan.tree) m in
        let prepared = preparation_of tables query.query in
        let made = prepared + start_of plan in
        let all = called d key query.query tables fits.some shape plan whole.nodes rows 0 prepared made
        (made + steps_for (λ n. share_of (size_of plan.tree) (0 + n)) (m + 1)) (m + 1) (omega arith) (omega arith)
        (omega arith) in
        omega (arith, due, steps, within, all)

    pub begun_within : (list : List Tagged) (b : ℕ) (queries : List BoundQuery) (plans : List (PlanView R))
        (engines : List (ChosenEngine R)) (news : List EngineView)
        (shapes : List Shape) → All (λ (q : BoundQuery). Fits q tables) queries → HavePlans d key tables queries plans
        → AreStarted d key plans engines
        → AreBegun (map seen_of engines) news → HaveShapes tables (queries_in queries) shapes
        → sum_by (preparation_of tables) (queries_in queries) + starts_of plans + sum_by due_of engines + steps_from
        share_of list b news
        ≤ union_cost tables list b (queries_in queries) shapes
    begun_within list b [] [] [] [] [] fits have started begun shapes = omega arith
    begun_within list b [] [] [] [] (shape ∷ shapes) fits have started begun has = absurd has
    begun_within list b [] [] [] (new ∷ news) shapes fits have started begun has = absurd begun
    begun_within list b [] [] (engine ∷ engines) news shapes fits have started begun has = absurd started
    begun_within list b [] (plan ∷ plans) engines news shapes fits have started begun has = absurd have
    begun_within list b (query ∷ queries) [] engines news shapes fits have started begun has = absurd have
    begun_within list b (query ∷ queries) (plan ∷ plans) [] news shapes fits have started begun has = absurd started
    begun_within list b (query ∷ queries) (plan ∷ plans) (engine ∷ engines) [] shapes fits have started begun has =
        absurd begun
    begun_within list b (query ∷ queries) (plan ∷ plans) (engine ∷ engines) (new ∷ news) [] fits have started begun
        has = absurd has
    begun_within list b (query ∷ queries) (plan ∷ plans) (engine ∷ engines) (new ∷ news) (shape ∷ shapes) fits have
        started begun has =
        let P = λ (q : BoundQuery). Fits q tables in
        let first = one_branch query plan engine new shape (members_in b list) (All-head P query queries fits) have.0
        started.0 begun.0 has.0 in
        let rest = begun_within list (b + 1) queries plans engines news shapes (All-tail P query queries fits) have.1
        started.1 begun.1 has.1 in
        let preparations = sum_by-cons (preparation_of tables) query.query (queries_in queries) in
        let starts = sum_by-cons (start_of {R = R}) plan plans in
        let dues = sum_by-cons due_of engine engines in
        omega (arith, first, rest, preparations, starts, dues)

    -- engines that were called once
    abbrev news_of : List (ChosenEngine R) → List EngineView
    news_of engines = map (λ (e : ChosenEngine R). record
        { calls = counted (calls_of e); due = 0; size = size_of (tree_of e) }) engines

    news_begun : (engines : List (ChosenEngine R)) → AreBegun (map seen_of engines) (news_of engines)
    news_begun [] = tt
    news_begun (engine ∷ engines) = (record { calls = refl; size = refl }, news_begun engines)

    -- before any member
    pub due_within : (list : List Tagged) (b : ℕ) (queries : List BoundQuery) (plans : List (PlanView R))
        (engines : List (ChosenEngine R)) (shapes : List Shape)
        → All (λ (q : BoundQuery). Fits q tables) queries → HavePlans d key tables queries plans
        → AreStarted d key plans engines
        → HaveShapes tables (queries_in queries) shapes
        → sum_by (preparation_of tables) (queries_in queries) + starts_of plans + sum_by due_of engines ≤ union_cost
        tables list b (queries_in queries) shapes
    due_within list b queries plans engines shapes fits have started has =
        let all = begun_within list b queries plans engines (news_of engines) shapes fits have started
        (news_begun engines) has in omega (arith, all)

    -- before any engine was called
    pub starts_within : (list : List Tagged) (b : ℕ) (queries : List BoundQuery) (plans : List (PlanView R))
        (shapes : List Shape)
        → All (λ (q : BoundQuery). Fits q tables) queries → HavePlans d key tables queries plans
        → HaveShapes tables (queries_in queries) shapes
        → sum_by (preparation_of tables) (queries_in queries) + starts_of plans ≤ union_cost tables list b
        (queries_in queries) shapes
    starts_within list b [] [] shapes fits have has = omega arith
    starts_within list b [] (plan ∷ plans) shapes fits have has = absurd have
    starts_within list b (query ∷ queries) [] shapes fits have has = absurd have
    starts_within list b (query ∷ queries) (plan ∷ plans) [] fits have has = absurd has
    starts_within list b (query ∷ queries) (plan ∷ plans) (shape ∷ shapes) fits have has =
        let P = λ (q : BoundQuery). Fits q tables in
        let whole = whole_of d key query tables None plan have.0 in
        let rows = rows_counted d key query tables plan whole shape has.0 in
        let prepared = preparation_of tables query.query in
        let first = started d key query.query tables (All-head P query queries fits).some shape plan whole.nodes rows
        0 prepared (prepared + start_of plan)
        (members_in b list + 1) (omega arith) (omega arith) in
        let rest = starts_within list (b + 1) queries plans shapes (All-tail P query queries fits) have.1 has.1 in
        let preparations = sum_by-cons (preparation_of tables) query.query (queries_in queries) in
        let starts = sum_by-cons (start_of {R = R}) plan plans in
        omega (arith, first, rest, preparations, starts)

    -- # All steps of a run over the queries

    module _ (queries : List BoundQuery) (plans : List (PlanView R))
        (fits : All (λ (q : BoundQuery). Fits q tables) queries)
        (have : HavePlans d key tables queries plans) (before now : ℕ)
        (prepared : ArePrepared (queries_in queries) tables before now) where
      -- when memory ran out for the engines
      pub started_any : (new : ℕ) → new ≤ now + starts_of plans → (list : List Tagged) (shapes : List Shape)
          → HaveShapes tables (queries_in queries) shapes
          → new ≤ before + union_cost tables list 0 (queries_in queries) shapes
      started_any new cost list shapes has = let all = starts_within list 0 queries plans shapes fits have has in
          omega (arith, prepared, cost, all)

      -- when memory ran out for the first answers
      pub due_any : (engines : List (ChosenEngine R)) → AreStarted d key plans engines → (new made : ℕ)
          → new ≤ now + starts_of plans
          → made ≤ new + sum_by due_of engines → (list : List Tagged) (shapes : List Shape)
          → HaveShapes tables (queries_in queries) shapes
          → made ≤ before + union_cost tables list 0 (queries_in queries) shapes
      due_any engines was new made cost first list shapes has =
          let all = due_within list 0 queries plans engines shapes fits have was has in
          omega (arith, prepared, cost, first, all)

      -- with the members of this list
      pub called_any : (engines : List (ChosenEngine R)) (news : List EngineView) → AreStarted d key plans engines
          → AreBegun (map seen_of engines) news
          → (new made last : ℕ) → new ≤ now + starts_of plans → made ≤ new + sum_by due_of engines
          → (list : List Tagged)
          → last ≤ made + steps_from share_of list 0 news → (shapes : List Shape)
          → HaveShapes tables (queries_in queries) shapes
          → last ≤ before + union_cost tables list 0 (queries_in queries) shapes
      called_any engines news was begun new made last cost first list spent shapes has =
          let all = begun_within list 0 queries plans engines news shapes fits have was begun has in
          omega (arith, prepared, cost, first, spent, all)

-- the limit of the union is that of the first query
pub first_limit : (queries : List BoundQuery) (query : BoundQuery) → 1 ≤ length queries → query ≡ get_or queries 0 query
    → query.query.limit ≡ (branch_at (queries_in queries) 0).limit
first_limit [] query some at = absurd (omega (arith, some))
first_limit (first ∷ queries) query some at = ap (λ (q : BoundQuery). q.query.limit) at

-- # The members

are_members : (queries : List Query) (tables : List Table) (list : List Tagged)
    → ((m : Tagged) → IsMember m list → IsUnionMember queries tables m)
    → AreMembers queries tables list
are_members queries tables [] each = tt
are_members queries tables (m ∷ list) each =
    (each m (inl refl), are_members queries tables list (λ other is. each other (inr is)))

pub union_members : (queries : List Query) (tables : List Table) → AreMembers queries tables (union_of queries tables)
union_members queries tables =
    are_members queries tables (union_of queries tables) (λ m is.
    let told = (union_is queries tables).sound m is in
    record { branch = told.0; rows = told.1.0 })
