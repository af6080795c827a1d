-- A second worked row, over the files of the first one: the four best answers of two queries in one
-- ranking. The command line is the same.
use Rattle.std.specs.Prelude.{ℕ, List, [], ◌∷◌, codes}
use Rattle.outer_io.specs.Files.{Files}
use Rattle.row_law.specs.Row.{left_text, right_text}

abbrev pub union_text : List ℕ
union_text = codes "select R.a from R order by R.w union all select S.c from S order by S.w limit 4"

abbrev pub union_files : Files
union_files = (codes "q.sql", union_text) ∷ (codes "R.csv", left_text) ∷ (codes "S.csv", right_text)
    ∷ []
