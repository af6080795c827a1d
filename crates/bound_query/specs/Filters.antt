-- The tests of an item's rows, which a row that passes keeps.
use Rattle.std.specs.Prelude.{◌≡◌, ◌⊎◌, ◌<◌, ℕ, List, [], get_or}
use Rattle.anyk_model.specs.Query.{Equality}
use Rattle.rankings.specs.Order.{IsMember}
use Rattle.bound_query.specs.Classes.{IsFixedTo, Linked}

-- places that must be equal, and constants that places must have
pub record ItemFilter : Type 0 where
  pub pairs : List (ℕ × ℕ)
  pub constants : List (ℕ × List ℕ)

-- the tests of an item
abbrev pub filter_at : List ItemFilter → ℕ → ItemFilter
filter_at filters item = get_or filters item (record { pairs = []; constants = [] })

-- a place, or one that is paired with it
abbrev pub Reaches : List (ℕ × ℕ) → ℕ → ℕ → Type 0
Reaches pairs first place = (first ≡ place) ⊎ IsMember (first, place) pairs

-- the tests that the classes make for an item
pub record IsFilterOf (es : List Equality) (item : ℕ) (filter : ItemFilter) : Type 0 where
  pub apart : (v : ℕ × ℕ) → IsMember v filter.pairs → v.0 < v.1
  pub linked : (v : ℕ × ℕ) → IsMember v filter.pairs
      → Linked es (record { item = item; place = v.0 }) (record { item = item; place = v.1 })
  pub joined : (a b : ℕ)
      → Linked es (record { item = item; place = a }) (record { item = item; place = b })
      → (a ≡ b) ⊎ ((first : ℕ) × Reaches filter.pairs first a × Reaches filter.pairs first b)
  pub fixed : (v : ℕ × List ℕ) → IsMember v filter.constants
      → IsFixedTo es (record { item = item; place = v.0 }) v.1
  pub constants : (a : ℕ) (bytes : List ℕ) → IsFixedTo es (record { item = item; place = a }) bytes
      → (first : ℕ) × Reaches filter.pairs first a × IsMember (first, bytes) filter.constants

-- a row, given by its fields, has the same bytes in both places of each pair
abbrev pub HasEqual : (ℕ → List ℕ) → List (ℕ × ℕ) → Type 0
HasEqual field pairs = (v : ℕ × ℕ) → IsMember v pairs → field v.0 ≡ field v.1

-- a row has each constant at its place
abbrev pub HasConstants : (ℕ → List ℕ) → List (ℕ × List ℕ) → Type 0
HasConstants field constants = (v : ℕ × List ℕ) → IsMember v constants → field v.0 ≡ v.1
