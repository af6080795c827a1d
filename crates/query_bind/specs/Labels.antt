-- The least column of each class, from a list of the columns that are not the least.
use Rattle.std.specs.Prelude.{◌≡◌, ◌==◌, ◌&&◌, ℕ, ◌<◌, Bool, if◌then◌else◌, List, [], ◌∷◌}
use Rattle.anyk_model.specs.Query.{Column, Equality}
use Rattle.bound_query.specs.Classes.{Linked, ColumnBefore}
use Rattle.bound_query.specs.StoredParts.{column_view}
use Rattle.query_bind.specs.declared.classes.Member.{Member}

-- each column has the least of its class as its label
pub record IsLabelling (es : List Equality) (label : Column → Column) : Type 0 where
  pub sound : (c d : Column) → label c ≡ label d → Linked es c d
  pub complete : (c d : Column) → Linked es c d → label c ≡ label d
  pub own : (c : Column) → Linked es c (label c)
  pub least : (c : Column) → ColumnBefore c (label c) → ⊥

abbrev pub is_same : Column → Column → Bool
is_same a b = (a.item == b.item) && (a.place == b.place)

-- one label replaced by another
abbrev pub replaced : Column → Column → Column → Column
replaced new old c = if is_same c old then new else c

-- the label with which a column is listed, or `none` if it is not listed
abbrev pub listed : List Member → Column → Column → Column
listed [] c none = none
listed (m ∷ members) c none = if is_same
    (column_view m.column) c then column_view m.least else listed members c none

-- a column that is not listed is the least of its class itself
abbrev pub least_in : List Member → Column → Column
least_in members c = listed members c c

-- the first place of an item whose column has this label
pub record IsFirstPlace (label : Column → Column) (item width : ℕ) (least : Column)
    (place : ℕ) : Type 0 where
  pub inside : place < width
  pub labelled : label (record { item = item; place = place }) ≡ least
  pub first : (other : ℕ) → other < place → label (record { item = item; place = other }) ≡ least
      → ⊥

-- no place of an item has a column with this label
abbrev pub HasNoPlace : (Column → Column) → ℕ → ℕ → Column → Type 0
HasNoPlace label item width least = (place : ℕ) → place < width
    → label (record { item = item; place = place }) ≡ least → ⊥
