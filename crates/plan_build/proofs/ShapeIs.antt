-- A query has one shape, so that of a plan is this one.
use Rattle.std.proofs.Common.{◌≡◌, ◌≤◌, ℕ, List, Ok, subst, arith}
use Rattle.tdp_model.specs.KeyTuple.{KeyOf}
use Rattle.tdp_core.specs.TreeView.{row_count}
use Rattle.anyk_model.specs.Table.{Table}
use Rattle.anyk_model.specs.Query.{Query}
use Rattle.bound_query.specs.WeighedQuery.{BoundQuery}
use Rattle.bound_query.specs.Shape.{IsShape, Shape}
use Rattle.bound_query.proofs.OneShape.{one_shape}
use Rattle.bound_query.specs.Report.{total_rows}
use Rattle.plan_build.specs.Plan.{IsPlanFor, PlanView, shape_of}

-- a query has one shape
pub shape_is : (query : Query) (tables : List Table) (x y : Shape) → IsShape query tables (Ok x) → IsShape query tables (Ok y) → x ≡ y
shape_is query tables x y a b = let e = one_shape query tables (Ok x) (Ok y) a b in cc

module _ {R : Type 0} (d : ℕ) (key : R → KeyOf d 16) (bound : BoundQuery) (tables : List Table) (plan : PlanView R) (is : IsPlanFor d key bound tables plan) where
  -- the shape that the plan keeps is the query's
  pub plan_shape : IsShape bound.query tables (Ok (shape_of plan))
  plan_shape = subst (λ (s : Shape). IsShape bound.query tables (Ok s)) is.shown is.is_shape

  -- the rows of the tree are among the rows that are counted
  pub rows_counted : (shape : Shape) → IsShape bound.query tables (Ok shape) → row_count plan.tree ≤ total_rows bound.query tables shape
  rows_counted shape has =
      let same = shape_is bound.query tables is.shape shape is.is_shape has in
      subst (λ s. row_count plan.tree ≤ total_rows bound.query tables s) same (let few = is.fewer in omega (arith, few))
