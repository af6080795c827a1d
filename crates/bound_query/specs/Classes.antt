-- The classes of columns that the equalities of a query make, and what they require of rows.
use Rattle.std.specs.Prelude.{◌≡◌, ◌≢◌, ◌⊎◌, ◌↔◌, ℕ, ◌-◌, ◌<◌, ◌≤◌, List, length, slice_index, get_or}
use Rattle.anyk_model.specs.Table.{Table, field_at}
use Rattle.anyk_model.specs.Query.{Query, Column, Equality, of_column, of_constant, item_table}
use Rattle.rankings.specs.Order.{IsMember, IsAscending}

-- equalities, one after another, lead from a column to another one, in either direction
pub data Linked (es : List Equality) : Column → Column → Type 0 where
  same : {c : Column} → Linked es c c
  forth : {e : Equality} {b c : Column} → IsMember e es → e.right ≡ of_column b → Linked es b c
      → Linked es e.left c
  back : {e : Equality} {b c : Column} → IsMember e es → e.right ≡ of_column b → Linked es e.left c
      → Linked es b c

-- a column of the same class is equated with this constant
pub record IsFixedTo (es : List Equality) (c : Column) (bytes : List ℕ) : Type 0 where
  pub equality : Equality
  pub member : IsMember equality es
  pub constant : equality.right ≡ of_constant bytes
  pub linked : Linked es c equality.left

-- the class of a column is a variable: it has no constant, and columns in at least two items
pub record IsShared (es : List Equality) (c : Column) : Type 0 where
  pub free : (bytes : List ℕ) → IsFixedTo es c bytes → ⊥
  pub other : Column
  pub linked : Linked es c other
  pub elsewhere : other.item ≢ c.item

-- the order of items and then columns
abbrev pub ColumnBefore : Column → Column → Type 0
ColumnBefore a b = (a.item < b.item) ⊎ ((a.item ≡ b.item) × (a.place < b.place))

-- the least column of its class
abbrev pub IsLeast : List Equality → Column → Type 0
IsLeast es c = (d : Column) → Linked es c d → ColumnBefore d c → ⊥

-- the variables in order, each by its least column
pub record AreVariables (es : List Equality) (list : List Column) : Type 0 where
  pub ascending : IsAscending ColumnBefore list
  pub members : (c : Column) → IsMember c list ↔ (IsShared es c × IsLeast es c)

abbrev pub variable_at : List Column → ℕ → Column
variable_at variables number = get_or variables number (record { item = 0; place = 0 })

-- a variable of an item: its number, and its least column there
pub record HasVariable (es : List Equality) (variables : List Column)
    (item number place : ℕ) : Type 0 where
  pub known : number < length variables
  pub linked : Linked es (variable_at variables number) (record { item = item; place = place })
  pub least : (other : ℕ)
      → Linked es (record { item = item; place = place }) (record { item = item; place = other })
      → place ≤ other

abbrev pub NumberBefore : ℕ × ℕ → ℕ × ℕ → Type 0
NumberBefore a b = a.0 < b.0

-- the variables of an item, in order
pub record AreVariablesOf (es : List Equality) (variables : List Column) (item : ℕ)
    (list : List (ℕ × ℕ)) : Type 0 where
  pub ascending : IsAscending NumberBefore list
  pub members : (v : ℕ × ℕ) → IsMember v list ↔ HasVariable es variables item v.0 v.1

-- ---- rows

-- the bytes that a row of an item has in a column
abbrev pub row_field : Query → List Table → ℕ → ℕ → ℕ → List ℕ
row_field query tables item row place = field_at (item_table query tables item) (row - 1) place

-- a row has the same bytes in all its columns of a class, and those of each constant of the class
pub record Passes (query : Query) (tables : List Table) (item row : ℕ) : Type 0 where
  pub equal : (a b : ℕ)
      → Linked query.equalities (record { item = item; place = a })
      (record { item = item; place = b })
      → row_field query tables item row a ≡ row_field query tables item row b
  pub constant : (a : ℕ) (bytes : List ℕ)
      → IsFixedTo query.equalities (record { item = item; place = a }) bytes
      → row_field query tables item row a ≡ bytes

-- the item has the row, counted from 1, and it passes
abbrev pub IsPassing : Query → List Table → ℕ → ℕ → Type 0
IsPassing query tables item row = (1 ≤ row)
    × (row ≤ length (item_table query tables item).rows) × Passes query tables item row

-- the rows of two items agree on each variable that both have
abbrev pub Agree : Query → List Table → List ℕ → ℕ → ℕ → Type 0
Agree query tables rows i j =
    (a b : ℕ) → IsShared query.equalities (record { item = i; place = a })
    → Linked query.equalities (record { item = i; place = a }) (record { item = j; place = b })
    → row_field query tables i (slice_index rows i) a
    ≡ row_field query tables j (slice_index rows j) b

-- each row passes its item, and any two rows agree
pub record PassAndAgree (query : Query) (tables : List Table) (rows : List ℕ) : Type 0 where
  pub pass : (i : ℕ) → i < length query.items → Passes query tables i (slice_index rows i)
  pub agree : (i j : ℕ) → i < length query.items → j < length query.items
      → Agree query tables rows i j

-- the same, but only at the least column of each variable in each item
pub record PassAndAgreeAtLeast (query : Query) (tables : List Table) (variables : List Column)
    (rows : List ℕ) : Type 0 where
  pub pass : (i : ℕ) → i < length query.items → Passes query tables i (slice_index rows i)
  pub agree : (i j : ℕ) → i < length query.items → j < length query.items → (number p q : ℕ)
      → HasVariable query.equalities variables i number p
      → HasVariable query.equalities variables j number q
      → row_field query tables i (slice_index rows i) p
      ≡ row_field query tables j (slice_index rows j) q
