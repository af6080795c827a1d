-- The places that a query names exist.
use Rattle.std.specs.Prelude.{◌<◌, List, length}
use Rattle.std.specs.List.{AllByRecursion}
use Rattle.anyk_model.specs.Table.{Table}
use Rattle.anyk_model.specs.Query.{Query, Item, Column, Side, of_column, of_constant, Equality, Term, OrderKey}
use Rattle.bound_query.specs.Weights.{table_in}

-- the item of a column exists, and so does the column in its table
pub record IsInside (tables : List Table) (items : List Item) (c : Column) : Type 0 where
  pub item : c.item < length items
  pub place : c.place < length (table_in tables items c.item).names

abbrev pub SideInside : List Table → List Item → Side → Type 0
SideInside tables items (of_column c) = IsInside tables items c
SideInside tables items (of_constant bytes) = Unit {0}

pub record EqualityInside (tables : List Table) (items : List Item) (e : Equality) : Type 0 where
  pub left : IsInside tables items e.left
  pub right : SideInside tables items e.right

abbrev pub TermInside : List Table → List Item → Term → Type 0
TermInside tables items t = IsInside tables items t.column

abbrev pub KeyInside : List Table → List Item → OrderKey → Type 0
KeyInside tables items key = AllByRecursion (TermInside tables items) key.terms

abbrev pub HasTable : List Table → Item → Type 0
HasTable tables i = i.table < length tables

-- each item has a table, and each column that the query names exists
pub record NamesExist (query : Query) (tables : List Table) : Type 0 where
  pub items : AllByRecursion (HasTable tables) query.items
  pub equalities : AllByRecursion (EqualityInside tables query.items) query.equalities
  pub order : AllByRecursion (KeyInside tables query.items) query.order
  pub list : AllByRecursion (IsInside tables query.items) query.list
