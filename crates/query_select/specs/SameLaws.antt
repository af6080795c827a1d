-- Parts of queries are the same exactly if they are equal without their offsets.
-- A proof, and not a definition: ghost fields of types are made with it, so it stands here.
use Rattle.std.proofs.Common.{◌≡◌, ℕ, List, [], ◌∷◌, map, Option, Some, None, Bool, true, false, ◌&&◌, refl, sym, ap, ◌∙◌, eq-eqb}
use mathlib.Core.Bool.{beq}
use Rattle.std.specs.Prelude.{nat_eq, IsTrue, ◌↔◌}
use Rattle.std.specs.Option.{option_eq}
use Rattle.std.specs.Str.{bytes_eq}
use Rattle.std.specs.Cmp.{IsPartialEquivalence}
use Rattle.std.specs.Cmp.Lexicographic.{pointwise, bytes_decides}
use Rattle.std.proofs.lemmas.Bool.{eqb-true}
use Rattle.query_select.specs.declared.select.ColumnRef.{ColumnRef}
use Rattle.query_select.specs.declared.select.SelectList.{SelectList}
use Rattle.query_select.specs.declared.select.SelectList.TheVariants.{Star, Columns}
use Rattle.query_select.specs.declared.select.ItemRef.{ItemRef}
use Rattle.query_select.specs.declared.select.Side.{Side}
use Rattle.query_select.specs.declared.select.Side.TheVariants.{Column, Constant}
use Rattle.query_select.specs.declared.select.Equality.{Equality}
use Rattle.query_select.specs.declared.select.Term.{Term}
use Rattle.query_select.specs.declared.select.KeyRef.{KeyRef}
use Rattle.query_select.specs.declared.select.Select.{Select}
use Rattle.query_select.specs.Placeless.{placeless_column, placeless_list, placeless_item, placeless_side, placeless_equality, placeless_term, placeless_key, placeless, AreOne, same_column, same_list, same_item, same_side, same_equality, same_term, same_key, same_select}

-- a test of whether two values are equal as they are seen
pub record Tells {K V : Type 0} (test : K → K → Bool) (view : K → V) : Type 0 where
  pub are_one : (x y : K) → test x y ≡ true → view x ≡ view y
  pub are_same : (x y : K) → view x ≡ view y → test x y ≡ true

-- ---- any such test is symmetric and transitive

one_answer : (a b : Bool) → (a ≡ true → b ≡ true) → (b ≡ true → a ≡ true) → a ≡ b
one_answer true b f g = sym (f refl)
one_answer false true f g = g refl
one_answer false false f g = refl

pub laws_of : {K V : Type 0} (test : K → K → Bool) (view : K → V) → Tells test view
    → IsPartialEquivalence test
laws_of test view t = record {
  symm = λ x y. one_answer (test x y) (test y x) (λ e. t.are_same y x (sym (t.are_one x y e)))
      (λ e. t.are_same x y (sym (t.are_one y x e)));
  trans = λ x y z e f. t.are_same x z (t.are_one x y e ∙ t.are_one y z f);
}

-- ---- tests of parts

both : (a b : Bool) → (a && b) ≡ true → (a ≡ true) × (b ≡ true)
both true b e = (refl, e)
both false b e = absurd cc

and_true : (a b : Bool) → a ≡ true → b ≡ true → (a && b) ≡ true
and_true true b e f = f
and_true false b e f = absurd cc

bytes_tell : Tells bytes_eq (λ (x : List ℕ). x)
bytes_tell = record
    { are_one = λ x y e. (bytes_decides x y).0 e; are_same = λ x y e. (bytes_decides x y).1 e }

pub bytes_laws : IsPartialEquivalence bytes_eq
bytes_laws = laws_of bytes_eq (λ x. x) bytes_tell

numbers_tell : Tells nat_eq (λ (x : ℕ). x)
numbers_tell = record { are_one = λ x y e. eqb-true x y e; are_same = λ x y e. eq-eqb x y e }

bools_one : (x y : Bool) → beq x y ≡ true → x ≡ y
bools_one true true e = refl
bools_one true false e = absurd cc
bools_one false true e = absurd cc
bools_one false false e = refl

bools_same : (x y : Bool) → x ≡ y → beq x y ≡ true
bools_same true true e = refl
bools_same true false e = absurd cc
bools_same false true e = absurd cc
bools_same false false e = refl

options_one : {K : Type 0} (test : K → K → Bool) → Tells test (λ (x : K). x) → (a b : Option K)
    → option_eq test a b ≡ true → a ≡ b
options_one test t None None e = refl
options_one test t None (Some y) e = absurd cc
options_one test t (Some x) None e = absurd cc
options_one test t (Some x) (Some y) e = ap Some (t.are_one x y e)

options_same : {K : Type 0} (test : K → K → Bool) → Tells test (λ (x : K). x) → (a b : Option K)
    → a ≡ b → option_eq test a b ≡ true
options_same test t None None e = refl
options_same test t None (Some y) e = absurd cc
options_same test t (Some x) None e = absurd cc
options_same test t (Some x) (Some y) e = t.are_same x y (let is : x ≡ y = cc in is)

lists_one : {K V : Type 0} (test : K → K → Bool) (view : K → V) → Tells test view → (a b : List K)
    → pointwise test a b ≡ true → map view a ≡ map view b
lists_one test view t [] [] e = refl
lists_one test view t [] (y ∷ ys) e = absurd cc
lists_one test view t (x ∷ xs) [] e = absurd cc
lists_one test view t (x ∷ xs) (y ∷ ys) e =
    let h = both (test x y) (pointwise test xs ys) e in
    let first = t.are_one x y h.0 in
    let others = lists_one test view t xs ys h.1 in
    λ i. first i ∷ others i

lists_same : {K V : Type 0} (test : K → K → Bool) (view : K → V) → Tells test view → (a b : List K)
    → map view a ≡ map view b → pointwise test a b ≡ true
lists_same test view t [] [] e = refl
lists_same test view t [] (y ∷ ys) e = absurd cc
lists_same test view t (x ∷ xs) [] e = absurd cc
lists_same test view t (x ∷ xs) (y ∷ ys) e =
    let first : view x ≡ view y = cc in
    let others : map view xs ≡ map view ys = cc in
    and_true (test x y) (pointwise test xs ys) (t.are_same x y first)
    (lists_same test view t xs ys others)

-- ---- the parts of a query

pub column_tells : Tells same_column placeless_column
column_tells = record { are_one = one; are_same = same }
  where
    one : (x y : ColumnRef) → same_column x y ≡ true → placeless_column x ≡ placeless_column y
    one x y e =
        let h = both (option_eq bytes_eq x.alias y.alias) (bytes_eq x.column y.column) e in
        let alias = options_one bytes_eq bytes_tell x.alias y.alias h.0 in
        let column = bytes_tell.are_one x.column y.column h.1 in
        λ i. record { alias = alias i; column = column i; at = 0 }

    same : (x y : ColumnRef) → placeless_column x ≡ placeless_column y → same_column x y ≡ true
    same x y e = and_true (option_eq bytes_eq x.alias y.alias) (bytes_eq x.column y.column)
        (options_same bytes_eq bytes_tell x.alias y.alias (ap (λ (c : ColumnRef). c.alias) e))
        (bytes_tell.are_same x.column y.column (ap (λ (c : ColumnRef). c.column) e))

list_one : (x y : SelectList) → same_list x y ≡ true → placeless_list x ≡ placeless_list y
list_one Star Star e = refl
list_one Star (Columns b) e = absurd cc
list_one (Columns a) Star e = absurd cc
list_one (Columns a) (Columns b) e = ap Columns
    (lists_one same_column placeless_column column_tells a b e)

list_same : (x y : SelectList) → placeless_list x ≡ placeless_list y → same_list x y ≡ true
list_same Star Star e = refl
list_same Star (Columns b) e = absurd cc
list_same (Columns a) Star e = absurd cc
list_same (Columns a) (Columns b) e = lists_same same_column placeless_column column_tells a b
    (let is : map placeless_column a ≡ map placeless_column b = cc in is)

pub list_tells : Tells same_list placeless_list
list_tells = record { are_one = list_one; are_same = list_same }

pub item_tells : Tells same_item placeless_item
item_tells = record { are_one = one; are_same = same }
  where
    one : (x y : ItemRef) → same_item x y ≡ true → placeless_item x ≡ placeless_item y
    one x y e =
        let h = both (bytes_eq x.table y.table) (bytes_eq x.alias y.alias) e in
        let table = bytes_tell.are_one x.table y.table h.0 in
        let alias = bytes_tell.are_one x.alias y.alias h.1 in
        λ i. record { table = table i; alias = alias i; at = 0 }

    same : (x y : ItemRef) → placeless_item x ≡ placeless_item y → same_item x y ≡ true
    same x y e = and_true (bytes_eq x.table y.table) (bytes_eq x.alias y.alias)
        (bytes_tell.are_same x.table y.table (ap (λ (c : ItemRef). c.table) e))
        (bytes_tell.are_same x.alias y.alias (ap (λ (c : ItemRef). c.alias) e))

side_one : (x y : Side) → same_side x y ≡ true → placeless_side x ≡ placeless_side y
side_one (Column a) (Column b) e = ap Column (column_tells.are_one a b e)
side_one (Column a) (Constant b) e = absurd cc
side_one (Constant a) (Column b) e = absurd cc
side_one (Constant a) (Constant b) e = ap Constant (bytes_tell.are_one a b e)

side_same : (x y : Side) → placeless_side x ≡ placeless_side y → same_side x y ≡ true
side_same (Column a) (Column b) e = column_tells.are_same a b
    (let is : placeless_column a ≡ placeless_column b = cc in is)
side_same (Column a) (Constant b) e = absurd cc
side_same (Constant a) (Column b) e = absurd cc
side_same (Constant a) (Constant b) e = bytes_tell.are_same a b (let is : a ≡ b = cc in is)

pub side_tells : Tells same_side placeless_side
side_tells = record { are_one = side_one; are_same = side_same }

pub equality_tells : Tells same_equality placeless_equality
equality_tells = record { are_one = one; are_same = same }
  where
    one : (x y : Equality) → same_equality x y ≡ true → placeless_equality x ≡ placeless_equality y
    one x y e =
        let h = both (same_column x.left y.left) (same_side x.right y.right) e in
        let left = column_tells.are_one x.left y.left h.0 in
        let right = side_tells.are_one x.right y.right h.1 in
        λ i. record { left = left i; right = right i }

    same : (x y : Equality) → placeless_equality x ≡ placeless_equality y → same_equality x y ≡ true
    same x y e = and_true (same_column x.left y.left) (same_side x.right y.right)
        (column_tells.are_same x.left y.left (ap (λ (c : Equality). c.left) e))
        (side_tells.are_same x.right y.right (ap (λ (c : Equality). c.right) e))

pub term_tells : Tells same_term placeless_term
term_tells = record { are_one = one; are_same = same }
  where
    one : (x y : Term) → same_term x y ≡ true → placeless_term x ≡ placeless_term y
    one x y e =
        let h = both (beq x.minus y.minus) (same_column x.column y.column) e in
        let minus = bools_one x.minus y.minus h.0 in
        let column = column_tells.are_one x.column y.column h.1 in
        λ i. record { minus = minus i; column = column i }

    same : (x y : Term) → placeless_term x ≡ placeless_term y → same_term x y ≡ true
    same x y e = and_true (beq x.minus y.minus) (same_column x.column y.column)
        (bools_same x.minus y.minus (ap (λ (c : Term). c.minus) e))
        (column_tells.are_same x.column y.column (ap (λ (c : Term). c.column) e))

pub key_tells : Tells same_key placeless_key
key_tells = record { are_one = one; are_same = same }
  where
    one : (x y : KeyRef) → same_key x y ≡ true → placeless_key x ≡ placeless_key y
    one x y e =
        let h = both (pointwise same_term x.terms y.terms) (beq x.descending y.descending) e in
        let terms = lists_one same_term placeless_term term_tells x.terms y.terms h.0 in
        let descending = bools_one x.descending y.descending h.1 in
        λ i. record { terms = terms i; descending = descending i }

    same : (x y : KeyRef) → placeless_key x ≡ placeless_key y → same_key x y ≡ true
    same x y e = and_true (pointwise same_term x.terms y.terms) (beq x.descending y.descending)
        (lists_same same_term placeless_term term_tells x.terms y.terms
        (ap (λ (c : KeyRef). c.terms) e))
        (bools_same x.descending y.descending (ap (λ (c : KeyRef). c.descending) e))

pub select_tells : Tells same_select placeless
select_tells = record { are_one = one; are_same = same }
  where
    one : (x y : Select) → same_select x y ≡ true → placeless x ≡ placeless y
    one x y e =
        let h = both (same_list x.list y.list) _ e in
        let g = both (pointwise same_item x.items y.items) _ h.1 in
        let f = both (pointwise same_equality x.equalities y.equalities) _ g.1 in
        let k = both (pointwise same_key x.keys y.keys) (option_eq nat_eq x.limit y.limit) f.1 in
        let list = list_tells.are_one x.list y.list h.0 in
        let items = lists_one same_item placeless_item item_tells x.items y.items g.0 in
        let equalities = lists_one same_equality placeless_equality equality_tells x.equalities
        y.equalities f.0 in
        let keys = lists_one same_key placeless_key key_tells x.keys y.keys k.0 in
        let limit = options_one nat_eq numbers_tell x.limit y.limit k.1 in
        λ i. record {
          list = list i;
          items = items i;
          equalities = equalities i;
          keys = keys i;
          limit = limit i;
        }

    same : (x y : Select) → placeless x ≡ placeless y → same_select x y ≡ true
    same x y e =
        and_true (same_list x.list y.list) _
        (list_tells.are_same x.list y.list (ap (λ (s : Select). s.list) e))
        (and_true (pointwise same_item x.items y.items) _
        (lists_same same_item placeless_item item_tells x.items y.items
        (ap (λ (s : Select). s.items) e))
        (and_true (pointwise same_equality x.equalities y.equalities) _
        (lists_same same_equality placeless_equality equality_tells x.equalities y.equalities
        (ap (λ (s : Select). s.equalities) e))
        (and_true (pointwise same_key x.keys y.keys) (option_eq nat_eq x.limit y.limit)
        (lists_same same_key placeless_key key_tells x.keys y.keys
        (ap (λ (s : Select). s.keys) e))
        (options_same nat_eq numbers_tell x.limit y.limit (ap (λ (s : Select). s.limit) e)))))

pub same_iff : (x y : Select) (t : Bool) → t ≡ same_select x y → IsTrue t ↔ AreOne x y
same_iff x y t is =
    (λ e. select_tells.are_one x y (sym is ∙ e), λ e. is ∙ select_tells.are_same x y e)
