-- The query of the row, its tables, and the query bound to them, by computation.
use Rattle.std.proofs.Common.{◌≡◌, ℕ, List, [], ◌∷◌, Some, Result, Ok, false, refl}
use Rattle.std.specs.Prelude.{codes}
use Rattle.csv.proofs.OnLiterals.{csv_on_literals}
use Rattle.anyk_model.specs.Query.{Column, Equality, Query, of_column}
use Rattle.anyk_model.specs.Table.{Table}
use Rattle.query_select.specs.declared.select.ColumnRef.{ColumnRef}
use Rattle.query_select.specs.declared.select.SelectList.TheVariants.{Columns}
use Rattle.query_select.specs.declared.select.Side.TheVariants.{Column as column_side}
use Rattle.query_select.specs.declared.select.Select.{Select}
use Rattle.query_parse.specs.Parse.{IsParsed}
use Rattle.query_parse.proofs.Literals.{parsed_as}
use Rattle.query_parse.proofs.OnLiterals.{query_grammar_on_literals}
use Rattle.refusals.specs.Reason.{Reason}
use Rattle.verdict.specs.Loading.{bound_in, first_uses, tables_in}
use Rattle.row_law.specs.Row.{query_text, row_files, row_words}

-- ---- the query

abbrev pub ref : List ℕ → List ℕ → ℕ → ColumnRef
ref alias column at = record { alias = Some alias; column = column; at = at }

abbrev pub row_select : Select
row_select = record {
  list = Columns (ref (codes "R") (codes "a") 7 ∷ ref (codes "S") (codes "c") 12 ∷ []);
  items = record { table = codes "R"; alias = codes "R"; at = 21 } ∷ record { table = codes "S"; alias = codes "S"; at = 24 } ∷ [];
  equalities = record { left = ref (codes "R") (codes "b") 32; right = column_side (ref (codes "S") (codes "b") 38) } ∷ [];
  keys = record { terms = record { minus = false; column = ref (codes "R") (codes "w") 51 } ∷ record { minus = false; column = ref (codes "S") (codes "w") 57 } ∷ []; descending = false } ∷ [];
  limit = Some 3;
}

pub row_parsed : IsParsed query_text row_select
unfolding query_grammar_on_literals
row_parsed = parsed_as query_text row_select refl

-- ---- the tables

abbrev three : List ℕ → List ℕ → List ℕ → List (List ℕ)
three a b c = a ∷ b ∷ c ∷ []

abbrev pub row_tables : List Table
row_tables =
    record { names = three (codes "a") (codes "b") (codes "w"); rows = three (codes "1") (codes "x") (codes "3") ∷ three (codes "2") (codes "y") (codes "1") ∷ three (codes "3") (codes "x") (codes "1") ∷ [] }
    ∷ record { names = three (codes "b") (codes "c") (codes "w"); rows = three (codes "x") (codes "p") (codes "5") ∷ three (codes "y") (codes "q") (codes "2") ∷ three (codes "x") (codes "q") (codes "4") ∷ [] }
    ∷ []

abbrev pub Told : {A : Type 0} → Result A Reason → Result A Reason → Type 0
Told a b = a ≡ b

pub row_tabled : Told (tables_in row_files row_words.tables (first_uses row_select.items)) (Ok row_tables)
unfolding csv_on_literals
row_tabled = refl

-- ---- the query bound to them

abbrev pub column : ℕ → ℕ → Column
column item place = record { item = item; place = place }

abbrev pub row_equality : Equality
row_equality = record { left = column 0 1; right = of_column (column 1 0) }

abbrev pub row_query : Query
row_query = record {
  items = record { table = 0; alias = codes "R" } ∷ record { table = 1; alias = codes "S" } ∷ [];
  equalities = row_equality ∷ [];
  order = record { terms = record { minus = false; column = column 0 2 } ∷ record { minus = false; column = column 1 2 } ∷ []; descending = false } ∷ [];
  list = column 0 0 ∷ column 1 1 ∷ [];
  limit = Some 3;
}

pub row_bound : Told (bound_in (row_select ∷ []) row_tables) (Ok (row_query ∷ []))
row_bound = refl
