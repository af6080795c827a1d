-- The ranking of a union as a list that computes, and what is left of it.
use Rattle.std.specs.Prelude.{◌==◌, ◌+◌, ℕ, List, [], ◌∷◌, ◌++◌, map, filter, length, get_or}
use Rattle.rankings.specs.Order.{IsAscending, ranked}
use Rattle.anyk_model.specs.Table.{Table}
use Rattle.anyk_model.specs.Query.{Query}
use Rattle.anyk_model.specs.Ranking.{Precedes, witnesses}
use Rattle.anyk_model.specs.TaggedRows.{PrecedesTagged, Tagged, branch_at, tagged}
use Rattle.anyk_model.specs.TaggedOrder.{tagged_order}

-- combinations of several branches, a list for each, of which the first has the number b
abbrev pub tagged_lists : ℕ → List (List (List ℕ)) → List Tagged
tagged_lists b [] = []
tagged_lists b (list ∷ lists) = map (tagged b) list ++ tagged_lists (b + 1) lists

-- what is left of the branches, a list for each, in the order of the union
abbrev pub left_of : List Query → List Table → List (List (List ℕ)) → List Tagged
left_of queries tables lists = ranked (PrecedesTagged queries tables) (tagged_order queries tables)
    (tagged_lists 0 lists)

-- the ranking of the union
abbrev pub union_of : List Query → List Table → List Tagged
union_of queries tables = left_of queries tables (map (λ query. witnesses query tables) queries)

-- the list of each branch is in the order of the branch's own ranking
abbrev pub AreAscending : List Query → List Table → List (List (List ℕ)) → Type 0
AreAscending queries tables lists = (b : ℕ)
    → IsAscending (Precedes (branch_at queries b) tables) (get_or lists b [])

-- how many members of a list are of branch b
abbrev pub members_in : ℕ → List Tagged → ℕ
members_in b list = length (filter (λ (m : Tagged). m.branch == b) list)
