use Rattle.semi_join.proofs.Handed.{handed}
use Rattle.semi_join.proofs.reduction.reduce.Goals as goal

pub returns : goal.returns
returns g c = record {
  reduced = handed c.and.result c.reduce_nodes-reduced.result _ _ c.and.ensures c.reduce_nodes-reduced.ensures.reduced;
  cost = c.reduce_nodes-reduced.ensures.cost;
}
