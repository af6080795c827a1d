-- A query that can be written: no name has a quote, and no list is empty if the grammar requires an
-- element.
use Rattle.std.proofs.Common.{ℕ, List, [], ◌∷◌, Option, Some, None}
use Rattle.query_select.specs.declared.select.ColumnRef.{ColumnRef}
use Rattle.query_select.specs.declared.select.SelectList.{SelectList}
use Rattle.query_select.specs.declared.select.SelectList.TheVariants.{Star, Columns}
use Rattle.query_select.specs.declared.select.ItemRef.{ItemRef}
use Rattle.query_select.specs.declared.select.Side.{Side}
use Rattle.query_select.specs.declared.select.Side.TheVariants.{Column, Constant}
use Rattle.query_select.specs.declared.select.Equality.{Equality}
use Rattle.query_select.specs.declared.select.Term.{Term}
use Rattle.query_select.specs.declared.select.KeyRef.{KeyRef}
use Rattle.query_select.specs.declared.select.Select.{Select}
use Rattle.query_parse.proofs.Written.{HasNoQuote}

abbrev pub Each : {A : Type 0} → (A → Type 0) → List A → Type 0
Each P [] = Unit {0}
Each P (x ∷ xs) = P x × Each P xs

abbrev pub EachOfSome : {A : Type 0} → (A → Type 0) → List A → Type 0
EachOfSome P [] = ⊥
EachOfSome P (x ∷ xs) = P x × Each P xs

abbrev pub PlainAlias : Option (List ℕ) → Type 0
PlainAlias None = Unit {0}
PlainAlias (Some alias) = HasNoQuote alias

pub record PlainColumn (c : ColumnRef) : Type 0 where
  pub alias : PlainAlias c.alias
  pub column : HasNoQuote c.column

pub record PlainItem (i : ItemRef) : Type 0 where
  pub table : HasNoQuote i.table
  pub alias : HasNoQuote i.alias

abbrev pub PlainSide : Side → Type 0
PlainSide (Column c) = PlainColumn c
PlainSide (Constant bytes) = Unit {0}

pub record PlainEquality (e : Equality) : Type 0 where
  pub left : PlainColumn e.left
  pub right : PlainSide e.right

pub record PlainTerm (t : Term) : Type 0 where
  pub column : PlainColumn t.column

pub record PlainKey (k : KeyRef) : Type 0 where
  pub terms : EachOfSome PlainTerm k.terms

abbrev pub PlainList : SelectList → Type 0
PlainList Star = Unit {0}
PlainList (Columns columns) = EachOfSome PlainColumn columns

pub record PlainSelect (s : Select) : Type 0 where
  pub list : PlainList s.list
  pub items : EachOfSome PlainItem s.items
  pub equalities : Each PlainEquality s.equalities
  pub keys : Each PlainKey s.keys
