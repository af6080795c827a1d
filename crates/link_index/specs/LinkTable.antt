-- A table of the numbers of links.
use Rattle.std.specs.Prelude.{◌≡◌, ℕ, ◌+◌, ◌<◌, List, length, slice_index}

-- the table has for each link its number plus 1, and 0 for a link that is not there
pub record IsTableOf (table links : List ℕ) : Type 0 where
  pub numbered : (link n : ℕ) → slice_index table link ≡ n + 1
      → (n < length links) × (slice_index links n ≡ link)
  pub whole : (n : ℕ) → n < length links → slice_index table (slice_index links n) ≡ n + 1

-- the greatest number of links to which another one is added
abbrev pub most_links : ℕ
most_links = 4194304
