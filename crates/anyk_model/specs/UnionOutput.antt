-- What is printed of the ranking of a union.
use Rattle.std.specs.Prelude.{◌+◌, ◌-◌, ℕ, max, if◌then◌else◌, List, [], ◌∷◌, ◌++◌, map, length, replicate, codes, false}
use Rattle.std.specs.List.{flat_map}
use Rattle.std.specs.Fmt.{decimal}
use Rattle.anyk_model.specs.Table.{Table}
use Rattle.anyk_model.specs.Query.{Query}
use Rattle.anyk_model.specs.Output.{Style, header_fields, line_fields, numbered, record_text}
use Rattle.anyk_model.specs.TaggedRows.{Tagged, branch_at}

-- the number of items of the longest branch
abbrev pub most_items : List Query → ℕ
most_items [] = 0
most_items (query ∷ queries) = max (length query.items) (most_items queries)

abbrev pub without_rows : Style → Style
without_rows style = record { ranks = style.ranks; rows = false; cursor = style.cursor }

-- the titles of the first branch, and then those of the branch and of the row numbers if they are
-- shown
abbrev pub union_header_fields : List Query → List Table → Style → List (List ℕ)
union_header_fields queries tables style =
    header_fields (branch_at queries 0) tables (without_rows style)
    ++ (if style.rows then codes "branch" ∷ numbered (codes "row") (most_items queries) else [])

-- the fields of the member's own branch, and then, if row numbers are shown, the branch, from 1,
-- the row numbers, and an empty field for each item that the branch has less than the longest one
abbrev pub union_line_fields : List Query → List Table → Style → Tagged → List (List ℕ)
union_line_fields queries tables style m =
    line_fields (branch_at queries m.branch) tables (without_rows style) m.rows
    ++ (if style.rows then decimal (m.branch + 1)
    ∷ (map decimal m.rows ++ replicate (most_items queries - length m.rows) []) else [])

abbrev pub union_header_text : List Query → List Table → Style → List ℕ
union_header_text queries tables style = record_text (union_header_fields queries tables style)

abbrev pub union_line_text : List Query → List Table → Style → Tagged → List ℕ
union_line_text queries tables style m = record_text (union_line_fields queries tables style m)

-- the header, and then a line for each member of a list
abbrev pub union_output_of : List Query → List Table → Style → List Tagged → List ℕ
union_output_of queries tables style list = union_header_text queries tables style
    ++ flat_map (union_line_text queries tables style) list
