-- The columns in which the rows of a node and of its parent must agree.
use Rattle.std.specs.Prelude.{◌≡◌, ◌<◌, ℕ, List, [], length, slice_index, slice_index_or}
use Rattle.join_tree.specs.declared.tree.JoinTree.{JoinTree}
use Rattle.bound_query.specs.Classes.{HasVariable}
use Rattle.bound_query.specs.WeighedQuery.{BoundQuery}
use Rattle.node_build.specs.Nodes.{item_of, parent_of}

-- one variable has the column p in item i and the column q in item j
pub record IsColumnPair (bound : BoundQuery) (i j p q : ℕ) : Type 0 where
  pub number : ℕ
  pub own : HasVariable bound.query.equalities bound.variables i number p
  pub other : HasVariable bound.query.equalities bound.variables j number q

-- the columns are at one place of the two lists
pub record StandTogether (own other : List ℕ) (p q : ℕ) : Type 0 where
  pub place : ℕ
  pub within : place < length own
  pub first : slice_index own place ≡ p
  pub second : slice_index other place ≡ q

-- the columns of each wanted variable that both items have, in each of the two items
pub record AreShared (bound : BoundQuery) (i j : ℕ) (Wanted : ℕ × ℕ → Type 0)
    (own other : List ℕ) : Type 0 where
  pub same : length own ≡ length other
  pub sound : (k : ℕ) → k < length own
      → IsColumnPair bound i j (slice_index own k) (slice_index other k)
  pub complete : (v : ℕ × ℕ) (q : ℕ) → Wanted v
      → HasVariable bound.query.equalities bound.variables j v.0 q → StandTogether own other v.1 q

-- the columns of the first n nodes
pub record HaveColumns (bound : BoundQuery) (join : JoinTree) (n : ℕ)
    (own above : List (List ℕ)) : Type 0 where
  pub own_count : length own ≡ n
  pub above_count : length above ≡ n
  pub root : slice_index_or own 0 [] ≡ []
  pub each : (v : ℕ) → 0 < v → v < n
      → AreShared bound (item_of join v) (item_of join (parent_of join v))
      (λ x. HasVariable bound.query.equalities bound.variables (item_of join v) x.0 x.1)
      (slice_index_or own v []) (slice_index_or above v [])
