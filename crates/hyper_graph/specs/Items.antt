-- The items of a query in a set of atoms. An item is an atom, counted from 1.
use Rattle.std.specs.Prelude.{ℕ, ◌+◌, List, map, filter}
use Rattle.std.specs.List.{range_with_len}
use Rattle.hyper_graph.specs.Graph.{is_in}

-- the items of a set that are among the first n, in order
unfoldable pub items_below : ℕ → ℕ → List ℕ
items_below set items = map (λ atom. atom + 1) (filter (is_in set) (range_with_len 0 items))

-- the items of a set, in order
abbrev pub items_of : ℕ → List ℕ
items_of set = items_below set 16
