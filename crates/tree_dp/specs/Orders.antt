-- The keys of a node's rows, and groups of rows in heap order by them.
use Rattle.std.specs.Prelude.{ℕ, List, [], map, length, slice_index, slice_index_or}
use Rattle.tdp_model.specs.KeyTuple.{KeyOf, key_add, key_below, key_none}
use Rattle.tdp_model.specs.Heap.{FollowsParent}

module _ {R : Type 0} (d : ℕ) (key : R → KeyOf d 16) where
  -- the key of row r, where `best` has the rank of each row; past the last one the key of zeros
  abbrev pub key_at : List R → ℕ → KeyOf d 16
  key_at best r = slice_index_or (map key best) r (key_none d 16)

  -- the key of row r, joined to that of the group that the row names for a child, of which `leasts`
  -- has the least ranks
  abbrev pub joined_at : List R → List (List ℕ) → ℕ → List R → ℕ → KeyOf d 16
  joined_at ranks named child leasts r = key_add d 16 (key_at ranks r)
      (key_at leasts (slice_index (slice_index_or named r []) child))

  -- no row of the group has a lesser key than the row at the parent of its place in a binary heap
  abbrev pub IsHeapOver : List R → List ℕ → Type 0
  IsHeapOver best group =
      (i : ℕ) → FollowsParent (key_below d 16) (λ j. key_at best (slice_index group j))
      (length group) i
