use Rattle.std.proofs.Common.{◌≡◌, List, take}
use Rattle.anyk_model.specs.Table.{Table}
use Rattle.bound_query.specs.KeyParts.{sum_of_all}
use Rattle.bound_query.specs.WeighedQuery.{Fits}
use Rattle.plan_build.proofs.SmallSums.{first_caps}
use Rattle.plan_build.proofs.ranked_plan.has_small_sums.Given as goal

abbrev pub invariant-loop-item : goal.invariant-loop-item
invariant-loop-item l = (tables : List Table) → Fits l.query tables → l.sum ≡ sum_of_all (take l.item (first_caps l.query tables))
