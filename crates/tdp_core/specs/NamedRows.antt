-- The groups that the rows of a node name for its children, and the block in which they lie.
use Rattle.std.specs.Prelude.{ℕ, zero, suc, List, [], ◌∷◌, drop, map, slice_index, take}
use Rattle.std.specs.List.{range_with_len}
use Rattle.std.specs.Prelude.{Vec}
use Rattle.std.specs.Global.{Global}

-- how many children there are, and for each row the group of each child
pub record NamedView : Type 0 where
  pub width : ℕ
  pub rows : List (List ℕ)

-- the numbers in so many pieces of this width, one after another
abbrev pub pieces : ℕ → ℕ → List ℕ → List (List ℕ)
pieces width zero named = []
pieces width (suc count) named = take width named ∷ pieces width count (drop width named)

-- # Columns

-- the columns that vectors hold
abbrev pub columns_in : List (Vec ℕ Global) → List (List ℕ)
columns_in vs = map (λ (v : Vec ℕ Global). v.items) vs

-- what stands at one place of each column
abbrev pub row_across : List (List ℕ) → ℕ → List ℕ
row_across columns place = map (λ column. slice_index column place) columns

-- the first rows of some columns
abbrev pub rows_across : List (List ℕ) → ℕ → List (List ℕ)
rows_across columns count = map (row_across columns) (range_with_len 0 count)
