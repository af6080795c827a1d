-- Worked examples, by computation.
use Rattle.std.proofs.Common.{◌≡◌, refl, ℕ, List, [], ◌∷◌, Some, None, codes, false}
use Rattle.csv.specs.Machine.{next_record}
use Rattle.csv.specs.Reading.{records_from, strip_bom}
use Rattle.anyk_model.specs.Table.{Table, records_of, table_of}
use Rattle.anyk_model.specs.Query.{Query, Column, Term, of_column}
use Rattle.anyk_model.specs.BestList.{list_of}

abbrev table : List ℕ → Table
table bytes = table_of (records_of bytes)

abbrev tables : List Table
tables = table (codes "a,b,w\n1,x,3\n2,y,1\n3,x,1\n") ∷ table (codes "b,c,w\nx,p,5\ny,q,2\nx,q,4\n") ∷ []

abbrev column : ℕ → ℕ → Column
column item place = record { item = item; place = place }

abbrev plus : ℕ → ℕ → Term
plus item place = record { minus = false; column = column item place }

abbrev by_sum : Query
by_sum = record {
  items = record { table = 0; alias = codes "R" } ∷ record { table = 1; alias = codes "S" } ∷ [];
  equalities = record { left = column 0 1; right = of_column (column 1 0) } ∷ [];
  order = record { terms = plus 0 2 ∷ plus 1 2 ∷ []; descending = false } ∷ [];
  list = column 0 0 ∷ column 1 1 ∷ [];
  limit = None;
}

of_no_item : list_of by_sum tables None ≡ (2 ∷ 2 ∷ []) ∷ (3 ∷ 3 ∷ []) ∷ (3 ∷ 1 ∷ []) ∷ (1 ∷ 3 ∷ []) ∷ (1 ∷ 1 ∷ []) ∷ []
unfolding next_record records_from strip_bom
of_no_item = refl

-- each row of R has one answer
of_first_item : list_of by_sum tables (Some 0) ≡ (2 ∷ 2 ∷ []) ∷ (3 ∷ 3 ∷ []) ∷ (1 ∷ 3 ∷ []) ∷ []
unfolding next_record records_from strip_bom
of_first_item = refl

-- each row of S has one answer, even if two of them have the same fields
of_second_item : list_of by_sum tables (Some 1) ≡ (2 ∷ 2 ∷ []) ∷ (3 ∷ 3 ∷ []) ∷ (3 ∷ 1 ∷ []) ∷ []
unfolding next_record records_from strip_bom
of_second_item = refl

abbrev equal_rows : List Table
equal_rows = table (codes "a,b,w\n1,x,3\n3,x,1\n") ∷ table (codes "b,c,w\nx,p,5\nx,p,5\n") ∷ []

of_equal_rows : list_of by_sum equal_rows (Some 1) ≡ (2 ∷ 1 ∷ []) ∷ (2 ∷ 2 ∷ []) ∷ []
unfolding next_record records_from strip_bom
of_equal_rows = refl

-- a row that is in no answer has no best answer
of_no_answer : list_of by_sum (table (codes "a,b,w\n1,z,3\n3,x,1\n") ∷ table (codes "b,c,w\nx,p,5\n") ∷ []) (Some 0) ≡ (2 ∷ 1 ∷ []) ∷ []
unfolding next_record records_from strip_bom
of_no_answer = refl
