-- The tests that classes make for the rows of items.
use Rattle.std.specs.Prelude.{◌≡◌, ◌⊎◌, ℕ, ◌<◌, List, length}
use Rattle.anyk_model.specs.Table.{Table}
use Rattle.anyk_model.specs.Query.{Query, Item, Column, Equality, of_constant}
use Rattle.rankings.specs.Order.{IsMember}
use Rattle.bound_query.specs.Filters.{IsFilterOf, ItemFilter, filter_at}
use Rattle.query_bind.specs.Labels.{HasNoPlace, IsFirstPlace}
use Rattle.query_bind.specs.Variables.{width_in}

-- the pairs of the first n places: each place with the first one of its class, if that is an
-- earlier one
pub record HavePairs (label : Column → Column) (item n : ℕ) (list : List (ℕ × ℕ)) : Type 0 where
  pub sound : (v : ℕ × ℕ) → IsMember v list
      → IsFirstPlace label item v.1 (label (record { item = item; place = v.1 })) v.0
  pub found : (q : ℕ) → q < n
      → HasNoPlace label item q (label (record { item = item; place = q }))
      ⊎ ((p : ℕ) × IsMember (p, q) list)

-- the constants of some equalities
pub record HaveConstants (label : Column → Column) (item width : ℕ) (es : List Equality)
    (list : List (ℕ × List ℕ)) : Type 0 where
  pub sound : (v : ℕ × List ℕ) → IsMember v list
      → (e : Equality) × IsMember e es × (e.right ≡ of_constant v.1)
      × IsFirstPlace label item width (label e.left) v.0
  pub found : (e : Equality) (bytes : List ℕ) → IsMember e es → e.right ≡ of_constant bytes
      → HasNoPlace label item width (label e.left)
      ⊎ ((p : ℕ) × IsMember (p, bytes) list × IsFirstPlace label item width (label e.left) p)

-- the tests of the first n items
pub record HaveFilters (label : Column → Column) (es : List Equality) (tables : List Table)
    (items : List Item) (n : ℕ) (filters : List ItemFilter) : Type 0 where
  pub count : length filters ≡ n
  pub pairs : (i : ℕ) → i < n
      → HavePairs label i (width_in tables items i) (filter_at filters i).pairs
  pub constants : (i : ℕ) → i < n
      → HaveConstants label i (width_in tables items i) es (filter_at filters i).constants

-- the tests of the items of a query
pub record HasFilters (query : Query) (list : List ItemFilter) : Type 0 where
  pub filtered : length list ≡ length query.items
  pub filters : (item : ℕ) → item < length query.items
      → IsFilterOf query.equalities item (filter_at list item)
