-- Lists of rows, of which only some rows have one.
use Rattle.std.specs.Prelude.{◌≡◌, ℕ, zero, suc, ◌<◌, ◌≤◌, List, [], slice_index_or}

-- list number n of these, where number 0 stands for no list
abbrev pub list_numbered : {A : Type 0} → List (List A) → ℕ → List A
list_numbered lists zero = []
list_numbered lists (suc k) = slice_index_or lists k []

-- Each row has number 0 or that of one of `count` lists. No two rows have the same list.
pub record HaveOwnLists (opened : List ℕ) (count : ℕ) : Type 0 where
  pub within : (r : ℕ) → slice_index_or opened r 0 ≤ count
  pub apart : (r s : ℕ) → 0 < slice_index_or opened r 0
      → slice_index_or opened r 0 ≡ slice_index_or opened s 0 → r ≡ s
