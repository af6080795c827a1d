-- How many rows the nodes of a tree may have.
use Rattle.std.specs.Prelude.{ℕ}

-- the greatest number of rows of all nodes together
abbrev pub most_node_rows : ℕ
most_node_rows = 4194304
