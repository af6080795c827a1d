-- The best answer of each row of an item.
use Rattle.std.specs.Prelude.{◌≡◌, ◌≢◌, ◌==◌, ℕ, Bool, not, List, [], ◌∷◌, ◌++◌, Option, None, Some, filter, slice_index}
use Rattle.rankings.specs.Order.{IsMember}
use Rattle.anyk_model.specs.Table.{Table}
use Rattle.anyk_model.specs.Query.{Query, IsWitness}
use Rattle.anyk_model.specs.Ranking.{Precedes, ranking_of}

-- whether two combinations have the same row of the item
abbrev pub same_row : ℕ → List ℕ → List ℕ → Bool
same_row item a b = slice_index a item == slice_index b item

-- Those members of a list before which no member has the same row of the item, in the list's order:
-- the first one, and then those of the others that have another row.
abbrev pub best_list : ℕ → List (List ℕ) → List (List ℕ)
best_list item [] = []
best_list item (rows ∷ list) = rows
    ∷ filter (λ other. not (same_row item rows other)) (best_list item list)

-- no member before it has the same row of the item
pub record IsFirstOfRow (item : ℕ) (rows : List ℕ) (list : List (List ℕ)) : Type 0 where
  pub before : List (List ℕ)
  pub after : List (List ℕ)
  pub parts : list ≡ before ++ rows ∷ after
  pub others : (other : List ℕ) → IsMember other before
      → slice_index other item ≢ slice_index rows item

-- a witness before which there is no witness with the same row of the item
pub record IsLeastOfRow (query : Query) (tables : List Table) (item : ℕ)
    (rows : List ℕ) : Type 0 where
  pub witness : IsWitness query tables rows
  pub least : (other : List ℕ) → IsWitness query tables other
      → slice_index other item ≡ slice_index rows item → Precedes query tables other rows → ⊥

-- the list that is asked for: the ranking, or its best list if an item is named
abbrev pub list_of : Query → List Table → Option ℕ → List (List ℕ)
list_of query tables None = ranking_of query tables
list_of query tables (Some item) = best_list item (ranking_of query tables)
