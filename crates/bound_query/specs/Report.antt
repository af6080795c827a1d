-- The report of a query's join tree.
use Rattle.std.specs.Prelude.{ℕ, ◌+◌, ◌==◌, if◌then◌else◌, List, ◌++◌, length, slice_index, codes, decimal}
use Rattle.std.specs.List.{flat_map, range_with_len}
use Rattle.anyk_model.specs.Query.{Query, row_counts}
use Rattle.anyk_model.specs.Table.{Table}
use Rattle.bound_query.specs.Items.{item_at}
use Rattle.bound_query.specs.KeyParts.{sum_of_all}
use Rattle.query_select.specs.Text.{name_text_of}
use Rattle.bound_query.specs.Shape.{Shape}

-- nodes count from 1, and the parent of the first is 0
abbrev pub parent_number : Shape → ℕ → ℕ
parent_number shape node = if node == 0 then 0 else slice_index shape.parents node + 1

-- a line with these numbers, and with a name as the canonical text writes it
abbrev pub node_text : ℕ → ℕ → ℕ → List ℕ → List ℕ
node_text number parent rows name =
    codes "node " ++ (decimal number
    ++ (codes " parent "
    ++ (decimal parent ++
    (codes " rows " ++ (decimal rows ++ (codes " item " ++ (name ++ codes "\n")))))))

-- the line of a node: its number, its parent's number, the number of its rows, and its item's alias
abbrev pub node_line : Query → Shape → ℕ → List ℕ
node_line query shape node =
    node_text (node + 1) (parent_number shape node) (slice_index shape.node_rows node)
    (name_text_of (item_at query.items (slice_index shape.atoms node)).alias)

-- the number of rows of the tables of all items, a table counted once for each item, and of all
-- nodes
abbrev pub total_rows : Query → List Table → Shape → ℕ
total_rows query tables shape = sum_of_all (row_counts query.items tables)
    + sum_of_all shape.node_rows

abbrev pub total_line : Query → List Table → Shape → List ℕ
total_line query tables shape = codes "total "
    ++ (decimal (total_rows query tables shape) ++ codes "\n")

-- a line for each node, in order, and the total
abbrev pub report_of : Query → List Table → Shape → List ℕ
report_of query tables shape = flat_map (node_line query shape)
    (range_with_len 0 (length shape.atoms)) ++ total_line query tables shape
