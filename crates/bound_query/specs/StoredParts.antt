-- What contracts see of the stored parts of a query.
use Rattle.std.specs.Prelude.{ℕ, List, map, Vec}
use Rattle.std.specs.Global.{Global}
use Rattle.anyk_model.specs.Query.{Item, Column, Side, of_column, of_constant, Equality, Term, OrderKey}
use Rattle.bound_query.specs.declared.bound.BoundItem.{BoundItem}
use Rattle.bound_query.specs.declared.bound.BoundSide.{BoundSide}
use Rattle.bound_query.specs.declared.bound.BoundSide.TheVariants as bound
use Rattle.bound_query.specs.declared.bound.BoundEquality.{BoundEquality}
use Rattle.bound_query.specs.declared.bound.BoundTerm.{BoundTerm}
use Rattle.bound_query.specs.declared.bound.BoundKey.{BoundKey}

abbrev pub item_view : BoundItem → Item
item_view i = record { table = i.table; alias = i.alias }

abbrev pub items_view : List BoundItem → List Item
items_view items = map item_view items

abbrev pub column_view : ℕ × ℕ → Column
column_view c = record { item = c.0; place = c.1 }

abbrev pub side_view : BoundSide → Side
side_view (bound.Column c) = of_column (column_view c)
side_view (bound.Constant bytes) = of_constant bytes

abbrev pub equality_view : BoundEquality → Equality
equality_view e = record { left = column_view e.left; right = side_view e.right }

abbrev pub term_view : BoundTerm → Term
term_view t = record { minus = t.minus; column = column_view t.column }

abbrev pub key_view : BoundKey → OrderKey
key_view k = record { terms = map term_view k.terms.items; descending = k.descending }

-- the variables of each item
abbrev pub lists_view : List (Vec (ℕ × ℕ) Global) → List (List (ℕ × ℕ))
lists_view lists = map (λ (v : Vec (ℕ × ℕ) Global). v.items) lists
