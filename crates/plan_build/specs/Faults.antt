-- Why a query has no plan.
use Rattle.std.specs.Prelude.{◌≡◌, List, Err}
use Rattle.anyk_model.specs.Query.{Query}
use Rattle.anyk_model.specs.Table.{Table}
use Rattle.hyper_graph.specs.Items.{items_of}
use Rattle.bound_query.specs.Shape.{IsShape, cyclic, too_many_rows}
use Rattle.tdp_model.specs.NodeRows.{most_node_rows}
use Rattle.plan_build.specs.declared.fault.PlanFault.{PlanFault}
use Rattle.plan_build.specs.declared.fault.PlanFault.TheVariants as fault

-- the fault that may be returned: memory ran out, or the query has this flaw
abbrev pub TellsFlaw : Query → List Table → PlanFault → Type 0
TellsFlaw query tables fault.NoMemory = Unit {0}
TellsFlaw query tables (fault.Cyclic core) = IsShape query tables (Err (cyclic (items_of core)))
TellsFlaw query tables (fault.TooManyRows most) = (most ≡ most_node_rows)
    × IsShape query tables (Err too_many_rows)
