-- Lists of values that are numbered, apart for each node.
use Rattle.std.specs.Prelude.{◌≡◌, ℕ, nat_eq, List, [], Some, map, length, position, slice_index_or}
use Rattle.std.specs.Cmp.Lexicographic.{pointwise}
use Rattle.std.specs.HashSet.{HashSet}
use Rattle.smallvec.specs.SmallVec.{SmallVec}

-- the lists of each set
abbrev pub lists_in : {S : Type 0} → List (HashSet (SmallVec ℕ) S) → List (List (List ℕ))
lists_in sets = map (λ s. map (λ v. v.items) s.keys) sets

-- the list of values has number n among those of node q: its place there, from 0
abbrev pub IsNumbered : List (List (List ℕ)) → ℕ → ℕ → List ℕ → Type 0
IsNumbered lists q n values =
    position (pointwise nat_eq values) (slice_index_or lists q []) ≡ Some n

-- lists keep their numbers when others are added
pub record AreMore (old new : List (List (List ℕ))) : Type 0 where
  pub count : length new ≡ length old
  pub kept : (q n : ℕ) (values : List ℕ) → IsNumbered old q n values → IsNumbered new q n values
