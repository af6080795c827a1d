-- What the line of a cyclic query says about an item.
use Rattle.std.specs.Prelude.{ℕ, ◌+◌, if◌then◌else◌, List, [], ◌++◌, codes, decimal}
use Rattle.hyper_graph.specs.Graph.{is_in}

-- what the line says about the item with this number, from 0, if the core is this set of items
abbrev pub item_text : ℕ → ℕ → List ℕ
item_text core place = if is_in core place then codes " " ++ decimal (place + 1) else []
