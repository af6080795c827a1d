-- Worked examples, by computation.
use Rattle.std.proofs.Common.{◌≡◌, refl, ℕ, true, false, List, [], ◌∷◌, Some, None, codes}
use Rattle.csv.specs.Machine.{next_record}
use Rattle.csv.specs.Reading.{records_from, strip_bom}
use Rattle.csv.specs.Writing.{fields_text, is_blank, escaped}
use Rattle.std.specs.Fmt.{digits}
use Rattle.rankings.specs.Order.{put_in, ranked}
use Rattle.anyk_model.specs.Table.{Table, records_of, table_of}
use Rattle.anyk_model.specs.Query.{Query, Column, Term, of_column}
use Rattle.anyk_model.specs.Output.{Style, cut}
use Rattle.anyk_model.specs.Union.{members_in, union_of}
use Rattle.anyk_model.specs.UnionOutput.{union_output_of}

abbrev table : List ℕ → Table
table bytes = table_of (records_of bytes)

abbrev tables : List Table
tables = table (codes "a,b,w\n1,x,3\n2,y,1\n3,x,1\n") ∷ table (codes "b,c,w\nx,p,5\ny,q,2\nx,q,4\n") ∷ []

abbrev column : ℕ → ℕ → Column
column item place = record { item = item; place = place }

abbrev plus : ℕ → ℕ → Term
plus item place = record { minus = false; column = column item place }

-- one item, in the order of its third column
abbrev single : ℕ → List ℕ → List Column → Query
single number alias picked = record {
  items = record { table = number; alias = alias } ∷ [];
  equalities = [];
  order = record { terms = plus 0 2 ∷ []; descending = false } ∷ [];
  list = picked;
  limit = None;
}

abbrev joined : Query
joined = record {
  items = record { table = 0; alias = codes "R" } ∷ record { table = 1; alias = codes "S" } ∷ [];
  equalities = record { left = column 0 1; right = of_column (column 1 0) } ∷ [];
  order = record { terms = plus 0 2 ∷ plus 1 2 ∷ []; descending = false } ∷ [];
  list = column 0 0 ∷ column 1 1 ∷ [];
  limit = None;
}

abbrev with_both : Style
with_both = record { ranks = true; rows = true; cursor = None }

abbrev two_tables : List Query
two_tables = single 0 (codes "R") (column 0 0 ∷ []) ∷ single 1 (codes "S") (column 0 1 ∷ []) ∷ []

text_of_two_tables : union_output_of two_tables tables with_both (cut (Some 4) (union_of two_tables tables))
    ≡ codes "a,rank1,branch,row1\n2,1,1,2\n3,1,1,3\nq,2,2,2\n1,3,1,1\n"
unfolding ranked put_in next_record records_from strip_bom fields_text is_blank escaped digits
text_of_two_tables = refl

-- a member of the shorter branch has an empty field, and of equal sums the earlier branch is first, whatever its rows
abbrev long_and_short : List Query
long_and_short = joined ∷ single 0 (codes "R") (column 0 0 ∷ column 0 1 ∷ []) ∷ []

text_of_long_and_short : union_output_of long_and_short tables with_both (cut (Some 4) (union_of long_and_short tables))
    ≡ codes "a,c,rank1,branch,row1,row2\n2,y,1,2,2,\n3,x,1,2,3,\n2,q,3,1,2,2\n1,x,3,2,1,\n"
unfolding ranked put_in next_record records_from strip_bom fields_text is_blank escaped digits
text_of_long_and_short = refl

members_of_short : members_in 1 (cut (Some 4) (union_of long_and_short tables)) ≡ 3
unfolding ranked put_in next_record records_from strip_bom
members_of_short = refl
