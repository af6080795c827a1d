-- Linked entries of many lists in one store: each entry has an owner, a node and a group, and its
-- place is the number of entries of the same owner before it.
use Rattle.std.specs.Prelude.{◌≡◌, ℕ, ◌+◌, ◌<◌, Option, Some, None, cond, nat_eq, List, [], ◌∷◌, length, take, slice_index, slice_index_or}

-- how many entries the group has, where `nodes` and `groups` are the owners by entry
unfoldable pub owned : List ℕ → List ℕ → ℕ → ℕ → ℕ
owned [] gs q g = 0
owned (v ∷ vs) [] q g = 0
owned (v ∷ vs) (h ∷ gs) q g = cond (nat_eq v q) (cond (nat_eq h g) 1 0) 0 + owned vs gs q g

-- the place of an entry in its list
abbrev pub place_in : List ℕ → List ℕ → ℕ → ℕ
place_in vs gs i = owned (take i vs) (take i gs) (slice_index vs i) (slice_index gs i)

-- what follows entry i: the entry at the next place of its list, or none if it is the last
abbrev pub IsLinkedAt : List ℕ → List ℕ → ℕ → Option ℕ → Type 0
IsLinkedAt vs gs i (Some n) = (n < length vs) × (slice_index vs n ≡ slice_index vs i)
    × (slice_index gs n ≡ slice_index gs i) × (place_in vs gs n ≡ place_in vs gs i + 1)
IsLinkedAt vs gs i None = place_in vs gs i + 1 ≡ owned vs gs (slice_index vs i) (slice_index gs i)

-- each entry is followed by the next one of its list
abbrev pub IsLinked : List ℕ → List ℕ → List (Option ℕ) → Type 0
IsLinked vs gs next = (i : ℕ) → i < length vs → IsLinkedAt vs gs i (slice_index_or next i None)
