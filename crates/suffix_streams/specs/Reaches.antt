-- What an entry of a group's queue stands for. The members of a group are in heap order by their
-- first solutions.
use Rattle.std.specs.Prelude.{ℕ, ◌*◌, cond, nat_eq, nat_le, List, slice_index_or}
use Rattle.tdp_model.specs.Heap.{under, FollowsParent}
use Rattle.tdp_model.specs.KeyTuple.{KeyOf, key_below, key_none}
use Rattle.tdp_model.specs.Product.{Pair, is_run}

-- 1 if the queue's entry f stands for p, else 0. A member's first solution stands for all solutions
-- of the members in its heap subtree, and a later one for what its member has from its place on.
unfoldable pub reaches : ℕ → (ℕ → ℕ) → Pair → Pair → ℕ
reaches m sizes f p = is_run m sizes p
    * cond (nat_eq f.right 0) (under f.left p.left)
    (cond (nat_eq f.left p.left) (cond (nat_le f.right p.right) 1 0) 0)

-- the first members of n lists are in heap order
abbrev pub AreHeapOrdered : (d : ℕ) → ℕ → (ℕ → List (KeyOf d 16)) → Type 0
AreHeapOrdered d n lists = (i : ℕ)
    → FollowsParent (key_below d 16) (λ j. slice_index_or (lists j) 0 (key_none d 16)) n i
