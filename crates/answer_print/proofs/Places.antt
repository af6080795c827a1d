-- The rows of a combination and the columns of a query exist.
use Rattle.std.proofs.Common.{◌≡◌, ◌<◌, ◌≤◌, ℕ, List, [], map, length, take, get_or, sym, ap, ◌∙◌, subst, arith, length-take}
use Rattle.std.proofs.lemmas.List.{get_or-map, get_or-take, length-map, take_all}
use Rattle.anyk_model.specs.Table.{Table, table_at}
use Rattle.anyk_model.specs.Query.{Query, Item, Column, IsCombination, row_counts}
use Rattle.anyk_model.proofs.Combinations.{combination_at, combination_length}
use Rattle.bound_query.specs.NamedPlaces.{HasTable, IsInside, NamesExist}
use Rattle.bound_query.specs.Items.{item_at}
use Rattle.bound_query.specs.StoredParts.{column_view}
use Rattle.bound_query.specs.Weights.{table_in}
use Rattle.bound_query.proofs.Lists.{all_at}

-- an item has a row, which exists
pub record HasRow (tables : List Table) (items : List Item) (rows : List ℕ) (i : ℕ) : Type 0 where
  pub same : get_or (take (length items) rows) i 0 ≡ get_or rows i 0
  pub first : 1 ≤ get_or rows i 0
  pub last : get_or rows i 0 ≤ length (table_in tables items i).rows
  pub place : i < length rows

pub row_there : (tables : List Table) (items : List Item) (rows : List ℕ) (i : ℕ) → IsCombination (row_counts items tables) (take (length items) rows) → i < length items
    → HasRow tables items rows i
row_there tables items rows i chosen inside =
    let counted : Item → ℕ = λ (it : Item). length ((table_at tables it.table).rows) in
    let sizes = length-map items counted in
    let same : get_or (take (length items) rows) i 0 ≡ get_or rows i 0 = get_or-take (length items) rows i 0 inside in
    let there = combination_at (row_counts items tables) (take (length items) rows) i chosen (omega (arith, sizes)) in
    let count : get_or (row_counts items tables) i 0 ≡ length (table_in tables items i).rows = get_or-map counted items i (record { table = 0; alias = [] }) 0 inside in
    let all = combination_length (row_counts items tables) (take (length items) rows) chosen in
    record {
      same = same;
      first = omega (arith, there.0, same);
      last = omega (arith, there.1, same, count);
      place = omega (arith, all, sizes, length-take (length items) rows);
    }

-- The selected column at a place exists, with its item and the item's table. Columns are stored as
-- pairs.
pub record HasColumn (query : Query) (tables : List Table) (shown : List (ℕ × ℕ)) (i : ℕ) (d : ℕ × ℕ) : Type 0 where
  pub place : i < length query.list
  pub same : column_view (get_or shown i d) ≡ get_or query.list i (column_view d)
  pub item : (get_or shown i d).0 < length query.items
  pub table : (item_at query.items (get_or shown i d).0).table < length tables
  pub column : (get_or shown i d).1 < length (table_in tables query.items (get_or shown i d).0).names

pub column_there : (query : Query) (tables : List Table) (shown : List (ℕ × ℕ)) (i : ℕ) (d : ℕ × ℕ) → NamesExist query tables → map column_view shown ≡ query.list
    → i < length shown → HasColumn query tables shown i d
column_there query tables shown i d within stored inside =
    let place : i < length query.list = omega (arith, inside, ap length stored, length-map shown column_view) in
    let same : column_view (get_or shown i d) ≡ get_or query.list i (column_view d) =
    sym (get_or-map column_view shown i d (column_view d) inside) ∙ ap (λ (l : List Column). get_or l i (column_view d)) stored in
    let there : IsInside tables query.items (column_view (get_or shown i d)) =
    subst (IsInside tables query.items) (sym same) (all_at (IsInside tables query.items) query.list i (column_view d) within.list place) in
    record {
      place = place;
      same = same;
      item = there.item;
      table = all_at (HasTable tables) query.items (get_or shown i d).0 (record { table = 0; alias = [] }) within.items there.item;
      column = there.place;
    }

-- all columns that are stored are all that are selected
pub all_columns : (shown : List (ℕ × ℕ)) (list : List Column) (i : ℕ) → map column_view shown ≡ list → length shown ≤ i → take i list ≡ list
all_columns shown list i is end = take_all i list (omega (arith, ap length is, length-map shown column_view, end))
