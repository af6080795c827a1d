-- The rows of a query's items, of which more numbers are stored than there are items.
use Rattle.std.specs.Prelude.{ℕ, List, length, take}
use Rattle.anyk_model.specs.Table.{Table}
use Rattle.anyk_model.specs.Query.{IsCombination, row_counts}
use Rattle.bound_query.specs.WeighedQuery.{BoundQuery}

-- the first rows, one for each item
abbrev pub rows_of : BoundQuery → List ℕ → List ℕ
rows_of bound rows = take (length bound.query.items) rows

-- they are rows of the items' tables
abbrev pub HasRows : BoundQuery → List Table → List ℕ → Type 0
HasRows bound tables rows = IsCombination (row_counts bound.query.items tables) (rows_of bound rows)
