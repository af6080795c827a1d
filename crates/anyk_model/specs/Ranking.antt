-- The order of keys, and the ranking of a query.
use Rattle.std.specs.Prelude.{◌≡◌, ◌⊎◌, ◌<ℤ◌, ℤ, ℕ, Bool, true, false, if◌then◌else◌, List, [], ◌∷◌, map, filter, int_lt}
use Rattle.std.specs.List.{list_all, flat_map, range_with_len}
use Rattle.std.specs.Str.{bytes_eq}
use Rattle.rankings.specs.Order as order
use Rattle.anyk_model.specs.Table.{Table}
use Rattle.anyk_model.specs.Query.{Query, Equality, IsWitness, key_of, row_counts, value_of, side_value}

-- the strict lexicographic order of lists of whole numbers
abbrev pub IsBefore : List ℤ → List ℤ → Type 0
IsBefore [] [] = ⊥
IsBefore [] (y ∷ ys) = Unit {0}
IsBefore (x ∷ xs) [] = ⊥
IsBefore (x ∷ xs) (y ∷ ys) = (x <ℤ y) ⊎ ((x ≡ y) × IsBefore xs ys)

-- the order of combinations by their keys
abbrev pub Precedes : Query → List Table → List ℕ → List ℕ → Type 0
Precedes query tables a b = IsBefore (key_of query tables a) (key_of query tables b)

-- the strictly ascending list of exactly the witnesses
abbrev pub IsRanking : Query → List Table → List (List ℕ) → Type 0
IsRanking query tables list = order.IsRanking (List ℕ) (Precedes query tables)
    (IsWitness query tables) list

-- ---- the same as a list that computes

-- all combinations of rows, if the items have this many
abbrev pub combinations : List ℕ → List (List ℕ)
combinations [] = [] ∷ []
combinations (count ∷ counts) = flat_map (λ row. map (λ rows. row ∷ rows) (combinations counts))
    (range_with_len 1 count)

-- whether an equality holds
abbrev pub holds : Query → List Table → List ℕ → Equality → Bool
holds query tables rows e = bytes_eq (value_of query tables rows e.left)
    (side_value query tables rows e.right)

-- the witnesses, in the order of their row numbers
abbrev pub witnesses : Query → List Table → List (List ℕ)
witnesses query tables =
    filter (λ rows. list_all (holds query tables rows) query.equalities)
    (combinations (row_counts query.items tables))

-- whether a list comes before another
abbrev pub is_before : List ℤ → List ℤ → Bool
is_before [] [] = false
is_before [] (y ∷ ys) = true
is_before (x ∷ xs) [] = false
is_before (x ∷ xs) (y ∷ ys) = if int_lt x y then true else if int_lt y x then false else is_before
    xs ys

-- a list with one more combination, at its place; one that is there already is not put in twice
abbrev pub insert_by : (List ℕ → List ℤ) → List ℕ → List (List ℕ) → List (List ℕ)
insert_by key a [] = a ∷ []
insert_by key a (b ∷ list) =
    if is_before (key a) (key b) then a ∷ b ∷ list
    else if is_before (key b) (key a) then b ∷ insert_by key a list else b ∷ list

abbrev pub sort_by : (List ℕ → List ℤ) → List (List ℕ) → List (List ℕ)
sort_by key [] = []
sort_by key (a ∷ list) = insert_by key a (sort_by key list)

-- the ranking
abbrev pub ranking_of : Query → List Table → List (List ℕ)
ranking_of query tables = sort_by (key_of query tables) (witnesses query tables)
