-- What contracts see of stored tests of rows.
use Rattle.std.specs.Prelude.{ℕ, List, map}
use Rattle.bound_query.specs.Filters.{ItemFilter}
use Rattle.bound_query.specs.declared.filters.Constant.{Constant}
use Rattle.bound_query.specs.declared.filters.Filter.{Filter}

abbrev pub constant_view : Constant → ℕ × List ℕ
constant_view c = (c.place, c.bytes)

abbrev pub filter_view : Filter → ItemFilter
filter_view f = record { pairs = f.pairs.items; constants = map constant_view f.constants.items }
