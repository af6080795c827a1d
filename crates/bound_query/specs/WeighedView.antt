-- What contracts see of stored weights.
use Rattle.std.specs.Prelude.{List, map, Vec}
use Rattle.std.specs.Global.{Global}
use Rattle.bound_query.specs.WeighedQuery.{ItemParts}
use Rattle.bound_query.specs.declared.bound.ItemWeights.{ItemWeights}

abbrev pub item_weights_view : ItemWeights → ItemParts
item_weights_view w = record { cap = w.cap; parts = w.parts.items }

abbrev pub weighed_view : Vec ItemWeights Global → List ItemParts
weighed_view v = map item_weights_view v.items
