-- The two queries of the second row, and their tables, by computation.
use Rattle.std.proofs.Common.{ℕ, List, [], ◌∷◌, None, Some, Option, Ok, false, refl}
use Rattle.std.specs.Prelude.{codes}
use Rattle.csv.proofs.OnLiterals.{csv_on_literals}
use Rattle.anyk_model.specs.Query.{OrderKey, Query}
use Rattle.query_select.specs.declared.select.SelectList.TheVariants.{Columns}
use Rattle.query_select.specs.declared.select.Select.{Select}
use Rattle.query_select.specs.declared.select.SelectAll.{SelectAll}
use Rattle.query_parse.specs.Parse.{IsParsedAll}
use Rattle.query_parse.proofs.Literals.{parsed_all_as}
use Rattle.query_parse.proofs.OnLiterals.{query_grammar_on_literals}
use Rattle.verdict.specs.Loading.{all_items, bound_in, first_uses, tables_in}
use Rattle.row_law.specs.Row.{row_words}
use Rattle.row_law.specs.UnionRow.{union_files, union_text}
use Rattle.row_law.proofs.Loaded.{Told, column, ref, row_tables}
use Rattle.row_law.proofs.Single.{single}

abbrev select_with : List ℕ → List ℕ → ℕ → ℕ → ℕ → Option ℕ → Select
select_with table picked list_at at key_at limit = record {
  list = Columns (ref table picked list_at ∷ []);
  items = record { table = table; alias = table; at = at } ∷ [];
  equalities = [];
  keys = record { terms = record { minus = false; column = ref table (codes "w") key_at } ∷ []; descending = false } ∷ [];
  limit = limit;
}

abbrev pub union_select : SelectAll
union_select = record {
  branches = select_with (codes "R") (codes "a") 7 16 27 None ∷ select_with (codes "S") (codes "c") 48 57 68 None ∷ [];
  limit = Some 4;
}

pub union_parsed : IsParsedAll union_text union_select
unfolding query_grammar_on_literals
union_parsed = parsed_all_as union_text union_select refl

-- each with the limit of the whole
abbrev pub union_selects : List Select
union_selects = select_with (codes "R") (codes "a") 7 16 27 (Some 4) ∷ select_with (codes "S") (codes "c") 48 57 68 (Some 4) ∷ []

pub union_tabled : Told (tables_in union_files row_words.tables (first_uses (all_items union_selects))) (Ok row_tables)
unfolding csv_on_literals
union_tabled = refl

abbrev pub by_weight : List OrderKey
by_weight = record { terms = record { minus = false; column = column 0 2 } ∷ []; descending = false } ∷ []

abbrev pub union_queries : List Query
union_queries =
    single 0 (codes "R") by_weight (column 0 0 ∷ []) (Some 4) ∷ single 1 (codes "S") by_weight (column 0 1 ∷ []) (Some 4) ∷ []

pub union_bound : Told (bound_in union_selects row_tables) (Ok union_queries)
union_bound = refl
