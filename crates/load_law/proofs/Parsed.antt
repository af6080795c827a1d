-- The query of `load`, parsed by computation.
use Rattle.std.proofs.Common.{ℕ, List, [], ◌∷◌, Some, false, refl}
use Rattle.std.specs.Prelude.{codes}
use Rattle.make_input.specs.Input.{load_query}
use Rattle.query_select.specs.declared.select.ColumnRef.{ColumnRef}
use Rattle.query_select.specs.declared.select.SelectList.TheVariants.{Columns}
use Rattle.query_select.specs.declared.select.ItemRef.{ItemRef}
use Rattle.query_select.specs.declared.select.Side.TheVariants.{Column}
use Rattle.query_select.specs.declared.select.Equality.{Equality}
use Rattle.query_select.specs.declared.select.Term.{Term}
use Rattle.query_select.specs.declared.select.Select.{Select}
use Rattle.query_parse.specs.Parse.{IsParsed}
use Rattle.query_parse.proofs.Literals.{parsed_as}
use Rattle.query_parse.proofs.OnLiterals.{query_grammar_on_literals}

-- a column of an item, at this offset
abbrev pub column_of : List ℕ → List ℕ → ℕ → ColumnRef
column_of item name at = record { alias = Some item; column = name; at = at }

abbrev pub item_of : List ℕ → ℕ → ItemRef
item_of name at = record { table = name; alias = name; at = at }

abbrev pub both_of : ColumnRef → ColumnRef → Equality
both_of left right = record { left = left; right = Column right }

abbrev pub term_of : ColumnRef → Term
term_of column = record { minus = false; column = column }

-- the query of `load`
abbrev pub load_select : Select
load_select = record {
  list = Columns (column_of (codes "P1") (codes "a") 7 ∷ column_of (codes "P4") (codes "e") 13 ∷ []);
  items = item_of (codes "P1") 23 ∷ item_of (codes "P2") 27 ∷ item_of (codes "P3") 31 ∷ item_of (codes "P4") 35 ∷ [];
  equalities =
      both_of (column_of (codes "P1") (codes "b") 44) (column_of (codes "P2") (codes "b") 51)
      ∷ both_of (column_of (codes "P2") (codes "c") 60) (column_of (codes "P3") (codes "c") 67)
      ∷ both_of (column_of (codes "P3") (codes "d") 76) (column_of (codes "P4") (codes "d") 83) ∷ [];
  keys = record {
    terms = term_of (column_of (codes "P1") (codes "w") 97) ∷ term_of (column_of (codes "P2") (codes "w") 104)
        ∷ term_of (column_of (codes "P3") (codes "w") 111) ∷ term_of (column_of (codes "P4") (codes "w") 118) ∷ [];
    descending = false;
  } ∷ [];
  limit = Some 100;
}

pub load_parsed : IsParsed load_query load_select
unfolding query_grammar_on_literals
load_parsed = parsed_as load_query load_select refl
