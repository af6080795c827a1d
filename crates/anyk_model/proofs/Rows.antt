-- Worked examples, computed: from the bytes of files to tables, weights, rankings and output.
use Rattle.std.proofs.Common.{◌≡◌, refl, ℕ, List, [], ◌∷◌, Some, None, codes, true, false, pos, negsuc}
use Rattle.csv.specs.Machine.{next_record}
use Rattle.csv.specs.Reading.{records_from, strip_bom}
use Rattle.csv.specs.Writing.{fields_text, is_blank, escaped}
use Rattle.std.specs.Fmt.{digits}
use Rattle.anyk_model.specs.Table.{Table, records_of, table_of, flaw_of, duplicate_name, ragged, no_header}
use Rattle.anyk_model.specs.Weight.{weight_of}
use Rattle.anyk_model.specs.Query.{Query, Item, Column, Equality, Term, of_column, of_constant}
use Rattle.anyk_model.specs.Ranking.{ranking_of}
use Rattle.anyk_model.specs.Output.{Style, output_of, cut}

abbrev r_csv : List ℕ
r_csv = codes "a,b,w\n1,x,3\n2,y,1\n3,x,1\n"

abbrev s_csv : List ℕ
s_csv = codes "b,c,w\nx,p,5\ny,q,2\nx,q,4\n"

abbrev table : List ℕ → Table
table bytes = table_of (records_of bytes)

reads : table (codes "a,b,w\n1,x,3\n") ≡ record {
  names = codes "a" ∷ codes "b" ∷ codes "w" ∷ [];
  rows = (codes "1" ∷ codes "x" ∷ codes "3" ∷ []) ∷ [];
}
unfolding next_record records_from strip_bom
reads = refl

empty_flaw : flaw_of (records_of []) ≡ Some no_header
unfolding next_record records_from strip_bom
empty_flaw = refl

twice_flaw : flaw_of (records_of (codes "b,b,w\n")) ≡ Some (duplicate_name 2)
unfolding next_record records_from strip_bom
twice_flaw = refl

ragged_flaw : flaw_of (records_of (codes "b,c\nx,p\nx\n")) ≡ Some (ragged 2)
unfolding next_record records_from strip_bom
ragged_flaw = refl

minus_zero : weight_of (codes "-0") ≡ Some (pos 0)
minus_zero = refl

plus_seven : weight_of (codes "+7") ≡ Some (pos 7)
plus_seven = refl

no_weight : weight_of (codes "12x") ≡ None
no_weight = refl

least : weight_of (codes "-170141183460469231731687303715884105728") ≡ Some (negsuc 170141183460469231731687303715884105727)
least = refl

past : weight_of (codes "170141183460469231731687303715884105728") ≡ None
past = refl

-- ---- rankings and their output

abbrev column : ℕ → ℕ → Column
column item place = record { item = item; place = place }

abbrev tables : List Table
tables = table r_csv ∷ table s_csv ∷ []

abbrev two_items : List Item
two_items = record { table = 0; alias = codes "R" } ∷ record { table = 1; alias = codes "S" } ∷ []

abbrev joined : List Equality
joined = record { left = column 0 1; right = of_column (column 1 0) } ∷ []

abbrev picked : List Column
picked = column 0 0 ∷ column 1 1 ∷ []

abbrev plus : ℕ → ℕ → Term
plus item place = record { minus = false; column = column item place }

abbrev by_sum : Query
by_sum = record {
  items = two_items;
  equalities = joined;
  order = record { terms = plus 0 2 ∷ plus 1 2 ∷ []; descending = false } ∷ [];
  list = picked;
  limit = None;
}

abbrev by_two : Query
by_two = record {
  items = two_items;
  equalities = joined;
  order = record { terms = plus 0 2 ∷ []; descending = true } ∷ record { terms = plus 1 2 ∷ []; descending = false } ∷ [];
  list = picked;
  limit = None;
}

abbrev plain : Style
plain = record { ranks = false; rows = false; cursor = None }

abbrev with_ranks : Style
with_ranks = record { ranks = true; rows = false; cursor = None }

abbrev with_both : Style
with_both = record { ranks = true; rows = true; cursor = None }

abbrev with_rows : Style
with_rows = record { ranks = false; rows = true; cursor = None }

ranking_by_sum : ranking_of by_sum tables ≡ (2 ∷ 2 ∷ []) ∷ (3 ∷ 3 ∷ []) ∷ (3 ∷ 1 ∷ []) ∷ (1 ∷ 3 ∷ []) ∷ (1 ∷ 1 ∷ []) ∷ []
unfolding next_record records_from strip_bom
ranking_by_sum = refl

text_by_sum : output_of by_sum tables plain (ranking_of by_sum tables) ≡ codes "a,c\n2,q\n3,q\n3,p\n1,q\n1,p\n"
unfolding next_record records_from strip_bom fields_text is_blank escaped digits
text_by_sum = refl

text_of_first : output_of by_sum tables with_both (cut (Some 1) (ranking_of by_sum tables)) ≡ codes "a,c,rank1,row1,row2\n2,q,3,2,2\n"
unfolding next_record records_from strip_bom fields_text is_blank escaped digits
text_of_first = refl

text_by_two : output_of by_two tables with_ranks (ranking_of by_two tables) ≡ codes "a,c,rank1,rank2\n1,q,3,4\n1,p,3,5\n2,q,1,2\n3,q,1,4\n3,p,1,5\n"
unfolding next_record records_from strip_bom fields_text is_blank escaped digits
text_by_two = refl

text_of_ties : output_of by_sum (table (codes "a,b,w\n1,x,3\n1,x,3\n") ∷ table (codes "b,c,w\nx,p,5\n") ∷ []) with_rows
    (ranking_of by_sum (table (codes "a,b,w\n1,x,3\n1,x,3\n") ∷ table (codes "b,c,w\nx,p,5\n") ∷ []))
    ≡ codes "a,c,row1,row2\n1,p,1,1\n1,p,2,1\n"
unfolding next_record records_from strip_bom fields_text is_blank escaped digits
text_of_ties = refl

abbrev all_pairs : Query
all_pairs = record { items = two_items; equalities = []; order = []; list = picked; limit = None }

text_of_all_pairs : output_of all_pairs tables plain (ranking_of all_pairs tables) ≡ codes "a,c\n1,p\n1,q\n1,q\n2,p\n2,q\n2,q\n3,p\n3,q\n3,q\n"
unfolding next_record records_from strip_bom fields_text is_blank escaped digits
text_of_all_pairs = refl

-- a class with two constants
abbrev contrary : Query
contrary = record {
  items = record { table = 0; alias = codes "R" } ∷ [];
  equalities = record { left = column 0 1; right = of_constant (codes "x") } ∷ record { left = column 0 1; right = of_constant (codes "y") } ∷ [];
  order = [];
  list = column 0 0 ∷ [];
  limit = None;
}

text_of_contrary : output_of contrary tables plain (ranking_of contrary tables) ≡ codes "a\n"
unfolding next_record records_from strip_bom fields_text is_blank escaped digits
text_of_contrary = refl

-- the greatest sum, and a field that needs quotes
text_of_greatest_sum : output_of by_sum (table (codes "a,b,w\n1,x,170141183460469231731687303715884105727\n") ∷ table (codes "b,c,w\nx,\"p,q\",0\n") ∷ []) with_ranks
    (ranking_of by_sum (table (codes "a,b,w\n1,x,170141183460469231731687303715884105727\n") ∷ table (codes "b,c,w\nx,\"p,q\",0\n") ∷ []))
    ≡ codes "a,c,rank1\n1,\"p,q\",170141183460469231731687303715884105727\n"
unfolding next_record records_from strip_bom fields_text is_blank escaped digits
text_of_greatest_sum = refl

-- a limit of 0 leaves the header alone
text_of_limit_zero : output_of by_sum tables plain (cut (Some 0) (ranking_of by_sum tables)) ≡ codes "a,c\n"
unfolding next_record records_from strip_bom fields_text is_blank escaped digits
text_of_limit_zero = refl

-- and so does a table with no row
text_of_no_rows : output_of by_sum (table r_csv ∷ table (codes "b,c,w\n") ∷ []) plain (ranking_of by_sum (table r_csv ∷ table (codes "b,c,w\n") ∷ []))
    ≡ codes "a,c\n"
unfolding next_record records_from strip_bom fields_text is_blank escaped digits
text_of_no_rows = refl

-- a field that is no weight, in a column that no order key names
abbrev by_second : Query
by_second = record {
  items = two_items;
  equalities = joined;
  order = record { terms = plus 1 2 ∷ []; descending = false } ∷ [];
  list = picked;
  limit = None;
}

text_by_second : output_of by_second (table (codes "a,b,w\n1,x,3\n2,y,12x\n3,x,1\n") ∷ table s_csv ∷ []) plain
    (ranking_of by_second (table (codes "a,b,w\n1,x,3\n2,y,12x\n3,x,1\n") ∷ table s_csv ∷ []))
    ≡ codes "a,c\n2,q\n1,q\n3,q\n1,p\n3,p\n"
unfolding next_record records_from strip_bom fields_text is_blank escaped digits
text_by_second = refl

-- one table in two items
abbrev with_itself : Query
with_itself = record {
  items = record { table = 0; alias = codes "a" } ∷ record { table = 0; alias = codes "b" } ∷ [];
  equalities = record { left = column 0 1; right = of_column (column 1 1) } ∷ [];
  order = [];
  list = column 0 0 ∷ column 1 0 ∷ [];
  limit = None;
}

text_with_itself : output_of with_itself tables plain (ranking_of with_itself tables) ≡ codes "a,a\n1,1\n1,3\n2,2\n3,1\n3,3\n"
unfolding next_record records_from strip_bom fields_text is_blank escaped digits
text_with_itself = refl

-- a constant, a limit, and a field that needs quotes in the file and in the output
abbrev two_flights : Query
two_flights = record {
  items = record { table = 0; alias = codes "a" } ∷ record { table = 0; alias = codes "b" } ∷ [];
  equalities = record { left = column 0 1; right = of_column (column 1 0) } ∷ record { left = column 0 0; right = of_constant (codes "Oslo") } ∷ [];
  order = record { terms = plus 0 2 ∷ plus 1 2 ∷ []; descending = false } ∷ [];
  list = column 0 1 ∷ column 1 1 ∷ [];
  limit = Some 2;
}

abbrev flights : List Table
flights = table (codes "src,dst,price\nOslo,Paris,120\nOslo,Rome,200\nParis,Lima,700\nRome,Lima,640\nParis,\"New York, NY\",350\n") ∷ []

ranking_of_flights : ranking_of two_flights flights ≡ (1 ∷ 5 ∷ []) ∷ (1 ∷ 3 ∷ []) ∷ (2 ∷ 4 ∷ []) ∷ []
unfolding next_record records_from strip_bom
ranking_of_flights = refl

text_of_flights : output_of two_flights flights with_ranks (cut two_flights.limit (ranking_of two_flights flights))
    ≡ codes "dst,dst,rank1\nParis,\"New York, NY\",470\nParis,Lima,820\n"
unfolding next_record records_from strip_bom fields_text is_blank escaped digits
text_of_flights = refl

-- a cursor's name stands first
text_with_cursor : output_of by_sum tables (record { ranks = false; rows = true; cursor = Some (codes "x") }) (cut (Some 1) (ranking_of by_sum tables))
    ≡ codes "cursor,a,c,row1,row2\nx,2,q,2,2\n"
unfolding next_record records_from strip_bom fields_text is_blank escaped digits
text_with_cursor = refl

-- one byte order mark is taken off, and a second stays
marked : table (239 ∷ 187 ∷ 191 ∷ codes "a\n1\n") ≡ record { names = codes "a" ∷ []; rows = (codes "1" ∷ []) ∷ [] }
unfolding next_record records_from strip_bom
marked = refl

-- the first flaw of the header comes before those of the rows, and a name before its repetition is none
first_flaw : flaw_of (records_of (codes "b,b\nx\n")) ≡ Some (duplicate_name 2)
unfolding next_record records_from strip_bom
first_flaw = refl

no_digits : weight_of (codes "-") ≡ None
no_digits = refl

no_sign_alone : weight_of (codes "+") ≡ None
no_sign_alone = refl

no_text : weight_of [] ≡ Some (pos 0)
no_text = refl

-- an empty field in a column that an order key names counts 0
empty_weight : output_of by_sum (table r_csv ∷ table (codes "b,c,w\nx,p,") ∷ []) with_ranks
    (ranking_of by_sum (table r_csv ∷ table (codes "b,c,w\nx,p,") ∷ []))
    ≡ codes "a,c,rank1\n3,p,1\n1,p,3\n"
unfolding next_record records_from strip_bom fields_text is_blank escaped digits
empty_weight = refl
