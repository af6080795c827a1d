use Rattle.std.proofs.Common.{◌≡◌, map, take, Some}
use Rattle.anyk_model.specs.Table.{table_at}
use Rattle.query_bind.specs.Measures.{HasMeasured}
use Rattle.bound_query.specs.Weights.{weights_in}
use Rattle.query_bind.proofs.weighing.read_column.Given as goal

abbrev pub invariant-loop-i : goal.invariant-loop-i
invariant-loop-i l =
    HasMeasured (weights_in (table_at l.tables l.table) l.place) l.i l.most
    × (map Some l.weights.items ≡ take l.i (weights_in (table_at l.tables l.table) l.place))
