-- The summary of a run over tables that are made.
use Rattle.std.specs.Prelude.{ℕ, ◌∷◌, [], List, ◌++◌, length, map, Option, None, Some, codes, decimal}
use Rattle.std.specs.Fmt.{signed_decimal}
use Rattle.std.specs.List.{last_or, slice_get}
use Rattle.anyk_model.specs.Table.{Table}
use Rattle.anyk_model.specs.Query.{OrderKey, Query, sum_of}
use Rattle.bound_query.specs.KeyParts.{sum_of_all}

-- the number of rows of all tables
abbrev pub rows_in_all : List Table → ℕ
rows_in_all tables = sum_of_all (map (λ (t : Table). length t.rows) tables)

-- the sum of the first order key, if there is one
abbrev pub first_sum_text : Query → List Table → List ℕ → List OrderKey → List ℕ
first_sum_text query tables member [] = codes "none"
first_sum_text query tables member (key ∷ keys) = signed_decimal (sum_of query tables member key)

-- the same for a member that may be missing
abbrev pub member_text : Query → List Table → Option (List ℕ) → List ℕ
member_text query tables None = codes "none"
member_text query tables (Some member) = first_sum_text query tables member query.order

-- four lines: the number of rows of the tables, the number of members, and the sums of the first
-- and of the last of them
abbrev pub summary_text : Query → List Table → List (List ℕ) → List ℕ
summary_text query tables members =
    codes "rows " ++ decimal (rows_in_all tables) ++ codes "\nanswers " ++ decimal (length members)
    ++ codes "\nfirst " ++ member_text query tables (slice_get members 0)
    ++ codes "\nlast " ++ member_text query tables (last_or None members) ++ codes "\n"
