-- A worked row: two tables of three rows each that are joined in one column, and the three best
-- answers.
use Rattle.std.specs.Prelude.{ℕ, List, [], ◌∷◌, None, false, codes}
use Rattle.outer_io.specs.Files.{Files}
use Rattle.verdict.specs.Words.{Asked, Words, a_command, run}

-- the command line
abbrev pub row_arguments : List (List ℕ)
row_arguments = codes "run" ∷ codes "q.sql" ∷ codes "R=R.csv" ∷ codes "S=S.csv" ∷ []

abbrev pub query_text : List ℕ
query_text = codes "select R.a, S.c from R, S where R.b = S.b order by R.w + S.w limit 3"

abbrev pub left_text : List ℕ
left_text = codes "a,b,w\n1,x,3\n2,y,1\n3,x,1\n"

abbrev pub right_text : List ℕ
right_text = codes "b,c,w\nx,p,5\ny,q,2\nx,q,4\n"

abbrev pub row_files : Files
row_files = (codes "q.sql", query_text) ∷ (codes "R.csv", left_text) ∷ (codes "S.csv", right_text)
    ∷ []

-- what the command line asks for
abbrev pub row_words : Words
row_words = record {
  ranks = false;
  rows = false;
  best_of = None;
  query = codes "q.sql";
  tables = (codes "R", codes "R.csv") ∷ (codes "S", codes "S.csv") ∷ [];
}

abbrev pub row_asked : Asked
row_asked = a_command (run row_words)
