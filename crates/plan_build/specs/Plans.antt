-- The plans of several queries, and the steps of their preparation.
use Rattle.std.specs.Prelude.{◌≤◌, ◌+◌, ◌*◌, ℕ, List, None, length}
use Rattle.std.specs.List.{AllZip, sum_by}
use Rattle.anyk_model.specs.Query.{Query, row_counts}
use Rattle.anyk_model.specs.Table.{Table}
use Rattle.bound_query.specs.KeyParts.{sum_of_all}
use Rattle.bound_query.specs.WeighedQuery.{BoundQuery}
use Rattle.tdp_model.specs.KeyTuple.{KeyOf}
use Rattle.plan_build.specs.Plan.{IsPlanOf, PlanView}

-- the plan of each query in order
abbrev pub HavePlans : {R : Type 0} (d : ℕ) → (R → KeyOf d 16) → List Table → List BoundQuery
    → List (PlanView R)
    → Type 0
HavePlans d key tables queries plans =
    AllZip (λ query made. IsPlanOf d key query tables None made) queries plans

-- the most steps that the preparation of a query's plan may take
abbrev pub preparation_of : List Table → Query → ℕ
preparation_of tables query =
    16 * (length query.items * length query.items
    * (1 + sum_of_all (row_counts query.items tables)))

-- no more steps than the preparation of the plans of all queries may take
abbrev pub ArePrepared : List Query → List Table → ℕ → ℕ → Type 0
ArePrepared queries tables before now = now ≤ before + sum_by (preparation_of tables) queries
