-- A bound query with what its rows add to the order keys.
use Rattle.std.specs.Prelude.{◌≡◌, ◌<◌, ◌≤◌, ℕ, List, [], ◌∷◌, map, length, get_or, ℤ}
use Rattle.std.specs.List.{AllByRecursion, range_with_len}
use Rattle.anyk_model.specs.Table.{Table}
use Rattle.anyk_model.specs.Query.{Query, Item, Column, OrderKey}
use Rattle.bound_query.specs.Classes.{AreVariables, AreVariablesOf}
use Rattle.bound_query.specs.Filters.{IsFilterOf, ItemFilter, filter_at}
use Rattle.bound_query.specs.NamedPlaces.{NamesExist}
use Rattle.bound_query.specs.KeyParts.{numbers_of}
use Rattle.bound_query.specs.Weights.{KeyInRange, KeyWeighs, cap_of, part_of, table_in, terms_in}

-- what an item adds to a key: the greatest absolute part that its columns allow, and the part of
-- each row
pub record ItemParts : Type 0 where
  pub cap : ℕ
  pub parts : List ℤ

-- The query; its variables, each by its least column; the variables of each item by number, each
-- with its least column there; and the tests of the rows of each item.
pub record BoundQuery : Type 0 where
  pub query : Query
  pub weighed : List (List ItemParts)
  pub variables : List Column
  pub lists : List (List (ℕ × ℕ))
  pub filters : List ItemFilter

-- the variables of an item
abbrev pub variables_at : List (List (ℕ × ℕ)) → ℕ → List (ℕ × ℕ)
variables_at lists item = get_or lists item []

-- nothing is kept for an item without a term
abbrev pub kept : {A : Type 0} → List A → List ℤ → List ℤ
kept [] parts = []
kept (x ∷ xs) parts = parts

-- what the rows of an item add to a key
abbrev pub row_parts : List Table → List Item → OrderKey → ℕ → List ℤ
row_parts tables items key item =
    kept (terms_in item key.terms)
    (map (λ row. part_of tables items item row key)
    (range_with_len 1 (length (table_in tables items item).rows)))

abbrev pub item_parts : List Table → List Item → OrderKey → ℕ → ItemParts
item_parts tables items key item = record
    { cap = cap_of tables items item key; parts = row_parts tables items key item }

-- what each item adds to a key
abbrev pub key_parts : List Table → List Item → OrderKey → List ItemParts
key_parts tables items key = map (item_parts tables items key) (numbers_of items)

-- the query was bound to these tables, and has at least one item
pub record Fits (bound : BoundQuery) (tables : List Table) : Type 0 where
  pub some : 1 ≤ length bound.query.items
  pub within : NamesExist bound.query tables
  pub weights : AllByRecursion (KeyWeighs tables bound.query.items) bound.query.order
  pub range : AllByRecursion (KeyInRange tables bound.query.items) bound.query.order
  pub weighed : bound.weighed ≡ map (key_parts tables bound.query.items) bound.query.order
  pub variables : AreVariables bound.query.equalities bound.variables
  pub few : length bound.variables ≤ 1024
  pub listed : length bound.lists ≡ length bound.query.items
  pub lists : (item : ℕ) → item < length bound.query.items
      → AreVariablesOf bound.query.equalities bound.variables item (variables_at bound.lists item)
  pub filtered : length bound.filters ≡ length bound.query.items
  pub filters : (item : ℕ) → item < length bound.query.items
      → IsFilterOf bound.query.equalities item (filter_at bound.filters item)
