-- A query without its offsets, and when two queries are the same except for these.
use Rattle.std.specs.Prelude.{◌≡◌, map, Bool, true, false, ◌&&◌, nat_eq}
use mathlib.Core.Bool.{beq}
use Rattle.std.specs.Option.{option_eq}
use Rattle.std.specs.Str.{bytes_eq}
use Rattle.std.specs.Cmp.Lexicographic.{pointwise}
use Rattle.query_select.specs.declared.select.ColumnRef.{ColumnRef}
use Rattle.query_select.specs.declared.select.SelectList.{SelectList}
use Rattle.query_select.specs.declared.select.SelectList.TheVariants.{Star, Columns}
use Rattle.query_select.specs.declared.select.ItemRef.{ItemRef}
use Rattle.query_select.specs.declared.select.Side.{Side}
use Rattle.query_select.specs.declared.select.Side.TheVariants.{Column, Constant}
use Rattle.query_select.specs.declared.select.Equality.{Equality}
use Rattle.query_select.specs.declared.select.Term.{Term}
use Rattle.query_select.specs.declared.select.KeyRef.{KeyRef}
use Rattle.query_select.specs.declared.select.Select.{Select}

abbrev pub placeless_column : ColumnRef → ColumnRef
placeless_column c = record { alias = c.alias; column = c.column; at = 0 }

abbrev pub placeless_list : SelectList → SelectList
placeless_list Star = Star
placeless_list (Columns columns) = Columns (map placeless_column columns)

abbrev pub placeless_item : ItemRef → ItemRef
placeless_item i = record { table = i.table; alias = i.alias; at = 0 }

abbrev pub placeless_side : Side → Side
placeless_side (Column c) = Column (placeless_column c)
placeless_side (Constant bytes) = Constant bytes

abbrev pub placeless_equality : Equality → Equality
placeless_equality e = record { left = placeless_column e.left; right = placeless_side e.right }

abbrev pub placeless_term : Term → Term
placeless_term t = record { minus = t.minus; column = placeless_column t.column }

abbrev pub placeless_key : KeyRef → KeyRef
placeless_key k = record { terms = map placeless_term k.terms; descending = k.descending }

-- each offset is 0, so that two queries which differ only in their offsets become equal
abbrev pub placeless : Select → Select
placeless s = record {
  list = placeless_list s.list;
  items = map placeless_item s.items;
  equalities = map placeless_equality s.equalities;
  keys = map placeless_key s.keys;
  limit = s.limit;
}

-- the same query, except for the offsets
abbrev pub AreOne : Select → Select → Type 0
AreOne a b = placeless a ≡ placeless b

-- ---- the same, as tests

abbrev pub same_column : ColumnRef → ColumnRef → Bool
same_column a b = option_eq bytes_eq a.alias b.alias && bytes_eq a.column b.column

abbrev pub same_list : SelectList → SelectList → Bool
same_list Star Star = true
same_list (Columns a) (Columns b) = pointwise same_column a b
same_list Star (Columns b) = false
same_list (Columns a) Star = false

abbrev pub same_item : ItemRef → ItemRef → Bool
same_item a b = bytes_eq a.table b.table && bytes_eq a.alias b.alias

abbrev pub same_side : Side → Side → Bool
same_side (Column a) (Column b) = same_column a b
same_side (Constant a) (Constant b) = bytes_eq a b
same_side (Column a) (Constant b) = false
same_side (Constant a) (Column b) = false

abbrev pub same_equality : Equality → Equality → Bool
same_equality a b = same_column a.left b.left && same_side a.right b.right

abbrev pub same_term : Term → Term → Bool
same_term a b = beq a.minus b.minus && same_column a.column b.column

abbrev pub same_key : KeyRef → KeyRef → Bool
same_key a b = pointwise same_term a.terms b.terms && beq a.descending b.descending

-- the same, except for the offsets
abbrev pub same_select : Select → Select → Bool
same_select a b =
    same_list a.list b.list &&
    (pointwise same_item a.items b.items && (pointwise same_equality a.equalities b.equalities
    && (pointwise same_key a.keys b.keys && option_eq nat_eq a.limit b.limit)))
