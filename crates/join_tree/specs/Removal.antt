-- Ear removal: which ears are removed in which order, and what is left.
use Rattle.std.specs.Prelude.{◌≡◌, ◌≢◌, ◌↔◌, ℕ, ◌-◌, ◌<◌, ◌≤◌, List, slice_index}
use Rattle.hyper_graph.specs.Ears.{CoversFirst, IsEar}
use Rattle.hyper_graph.specs.Graph.{Hypergraph, HasVar, IsIn}

-- the atoms that live after the first k removals
abbrev pub IsLive : ℕ → List ℕ → ℕ → ℕ → Type 0
IsLive atoms order k a = (a < atoms) × ((j : ℕ) → j < k → slice_index order j ≢ a)

-- e is the greatest ear, and f the least atom that covers it
pub record IsStep (Has : ℕ → ℕ → Type 0) (Live : ℕ → Type 0) (e f : ℕ) : Type 0 where
  pub live : Live e
  pub cover : CoversFirst Has Live e f
  pub greatest : (d : ℕ) → e < d → IsEar Has Live d → ⊥

-- the first `removed` atoms of `order` are removed one after another, each below its parent, and
-- `core` is what is left
pub record IsRun (graph : Hypergraph) (parent order : List ℕ) (removed core : ℕ) : Type 0 where
  pub steps : (k : ℕ) → k < removed
      → IsStep (HasVar graph) (IsLive graph.atoms order k) (slice_index order k)
      (slice_index parent (slice_index order k))
  pub left : (a : ℕ) → IsIn core a ↔ IsLive graph.atoms order removed a

-- the set has one atom
abbrev pub HasOne : ℕ → Type 0
HasOne set = (a : ℕ) × IsIn set a × ((b : ℕ) → IsIn set b → b ≡ a)

-- ears are removed as long as there are two atoms and one of them is an ear
pub record IsRemoval (graph : Hypergraph) (parent order : List ℕ) (removed core : ℕ) : Type 0 where
  pub few : graph.atoms ≤ 16
  pub some_left : removed < graph.atoms
  pub run : IsRun graph parent order removed core
  pub stuck : (e : ℕ) → IsEar (HasVar graph) (IsIn core) e → ⊥

-- ears are removed in any order until none is left: each atom of `order` is an ear when its turn
-- comes, and need not be the greatest
pub record IsAnyRemoval (graph : Hypergraph) (order : List ℕ) (removed : ℕ) : Type 0 where
  pub ears : (k : ℕ) → k < removed
      → IsEar (HasVar graph) (IsLive graph.atoms order k) (slice_index order k)
  pub stuck : (e : ℕ) → IsEar (HasVar graph) (IsLive graph.atoms order removed) e → ⊥

-- the tree of a removal that leaves one atom: its atoms in the reverse of the order in which they
-- were removed, each below its parent
pub record IsTreeOf (parent order : List ℕ) (removed core : ℕ)
    (atoms parents : List ℕ) : Type 0 where
  pub root : IsIn core (slice_index atoms 0)
  pub top : slice_index parents 0 ≡ 0
  pub reversed : (k : ℕ) → 0 < k → k ≤ removed
      → slice_index atoms k ≡ slice_index order (removed - k)
  pub earlier : (k : ℕ) → 0 < k → k ≤ removed → slice_index parents k < k
  pub hung : (k : ℕ) → 0 < k → k ≤ removed
      → slice_index atoms (slice_index parents k) ≡ slice_index parent (slice_index atoms k)
