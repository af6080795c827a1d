-- The tests by which variables are found, and the places of variables in an item.
use Rattle.std.specs.Prelude.{◌≡◌, ◌↔◌, ◌==◌, ◌&&◌, ◌<◌, ◌≤◌, ℕ, Bool, true, false, not, List, [], length, get_or}
use Rattle.std.specs.List.{list_any}
use Rattle.anyk_model.specs.Table.{Table}
use Rattle.anyk_model.specs.Query.{Query, Item, Column, Equality, Side, of_column, of_constant}
use Rattle.rankings.specs.Order.{IsAscending, IsMember}
use Rattle.bound_query.specs.Classes.{AreVariables, AreVariablesOf, NumberBefore, variable_at}
use Rattle.query_bind.specs.Labels.{IsFirstPlace, is_same, least_in}
use Rattle.bound_query.specs.StoredParts.{column_view, equality_view}
use Rattle.bound_query.specs.WeighedQuery.{variables_at}
use Rattle.bound_query.specs.Weights.{table_in}
use Rattle.bound_query.specs.declared.bound.BoundEquality.{BoundEquality}
use Rattle.query_bind.specs.declared.classes.Member.{Member}

abbrev pub is_constant : Side → Bool
is_constant (of_column c) = false
is_constant (of_constant bytes) = true

-- whether an equality gives a constant to the class with this least column
abbrev pub is_fixing : (Column → Column) → Column → Equality → Bool
is_fixing label least e = is_constant e.right && is_same (label e.left) least

-- whether another column of the class of this least column is in another item
abbrev pub is_other : (Column → Column) → Column → Column → Bool
is_other label least c = is_same (label c) least && not (c.item == least.item)

abbrev pub is_fixed : List Member → List BoundEquality → Column → Bool
is_fixed members es least = list_any
    (λ (e : BoundEquality). is_fixing (least_in members) least (equality_view e)) es

abbrev pub is_elsewhere : List Member → Column → Bool
is_elsewhere members least = list_any
    (λ (m : Member). is_other (least_in members) least (column_view m.column)) members

-- whether a column is the least one of a variable
abbrev pub is_variable : List Member → List BoundEquality → Column → Bool
is_variable members es c = is_same (least_in members c) c && is_elsewhere members c && not
    (is_fixed members es c)

-- the first n variables of an item, each with its first place there
pub record HavePlaces (label : Column → Column) (variables : List Column) (item width n : ℕ)
    (list : List (ℕ × ℕ)) : Type 0 where
  pub ascending : IsAscending NumberBefore list
  pub members : (v : ℕ × ℕ)
      → IsMember v list ↔
      ((v.0 < n) × IsFirstPlace label item width (variable_at variables v.0) v.1)

-- the number of columns of an item
abbrev pub width_in : List Table → List Item → ℕ → ℕ
width_in tables items item = length (table_in tables items item).names

-- the variables of the first n items
pub record HavePlacesEach (label : Column → Column) (variables : List Column) (tables : List Table)
    (items : List Item) (n : ℕ) (lists : List (List (ℕ × ℕ))) : Type 0 where
  pub count : length lists ≡ n
  pub each : (i : ℕ) → i < n
      → HavePlaces label variables i (width_in tables items i) (length variables)
      (get_or lists i [])

-- the variables of a query, and of each of its items
pub record HasVariables (query : Query) (least : List Column)
    (of_items : List (List (ℕ × ℕ))) : Type 0 where
  pub variables : AreVariables query.equalities least
  pub few : length least ≤ 1024
  pub listed : length of_items ≡ length query.items
  pub lists : (item : ℕ) → item < length query.items
      → AreVariablesOf query.equalities least item (variables_at of_items item)
