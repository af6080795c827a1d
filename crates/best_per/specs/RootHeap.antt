-- The rows of a tree's root, in a heap by their best keys, and what a queue of its places still
-- holds.
use Rattle.std.specs.Prelude.{◌≡◌, ℕ, ◌+◌, ◌<◌, ◌≤◌, cond, nat_lt, List, filter, length, map, slice_index}
use Rattle.std.specs.List.{All, sum_by, range_with_len}
use Rattle.rankings.specs.Order.{ranked}
use Rattle.take2_heap.specs.declared.entry.Entry.{Entry}
use Rattle.tdp_model.specs.Heap.{under}
use Rattle.tdp_model.specs.KeyTuple.{KeyOf, key_below}
use Rattle.tdp_model.specs.Remains.{Remains}
use Rattle.tdp_model.proofs.KeyTuples.{tuple_keys}
use Rattle.tdp_core.specs.AnswerView.{AnswerView}
use Rattle.tdp_core.specs.TreeView.{NodeView, members, best}
use Rattle.tdp_core.specs.WellFormed.{IsFormed, IsTieFreeTree}

-- an engine of best answers, as its callers see it: the tree, the answers that are left, and the
-- number of calls so far
pub record BestView (R : Type 0) : Type 0 where
  pub tree : List (NodeView R)
  pub rest : List AnswerView
  pub calls : ℕ

-- 1 if place i of a heap of n places is in the subtree of place j, else 0
unfoldable pub holds : ℕ → ℕ → ℕ → ℕ
holds n j i = cond (nat_lt i n) (under j i) 0

-- the number of entries that hold place i
abbrev pub held_by : {R : Type 0} → ℕ → List (Entry R ℕ) → ℕ → ℕ
held_by n es i = sum_by (λ e. holds n e.tag i) es

-- the places that they hold
abbrev pub places_left : {R : Type 0} → ℕ → List (Entry R ℕ) → List ℕ
places_left n es = filter (λ i. nat_lt 0 (held_by n es i)) (range_with_len 0 n)

-- the number of places of the root's heap
abbrev pub root_len : {R : Type 0} → List (NodeView R) → ℕ
root_len t = length (members t 0 0)

module _ {R : Type 0} (d : ℕ) (key : R → KeyOf d 16) (t : List (NodeView R)) where
  -- the best key of the row at a place
  abbrev pub place_key : ℕ → KeyOf d 16
  place_key i = best t d key 0 (slice_index (members t 0 0) i)

  -- the best keys of the rows that the entries hold, in ascending order
  abbrev pub rest_keys : List (Entry R ℕ) → List (KeyOf d 16)
  rest_keys es = ranked (key_below d 16) (tuple_keys d 16).order
      (map place_key (places_left (root_len t) es))

  -- an entry of the queue: a place of the heap, with the best key of its row
  pub record IsPlace (e : Entry R ℕ) : Type 0 where
    pub within : e.tag < root_len t
    pub ranked : key e.rank ≡ place_key e.tag

  -- The queue's entries hold each row that is left once. There is room for as many places as there
  -- are rows left. There is at most one more entry than rows that were given.
  pub record IsQueue (entries : List (Entry R ℕ)) (spare : ℕ) : Type 0 where
    pub formed : IsFormed d key t
    pub tie_free : IsTieFreeTree t
    pub each : All IsPlace entries
    pub remains : Remains ℕ (KeyOf d 16) (key_below d 16) place_key (held_by (root_len t) entries)
        (rest_keys entries)
    pub room : length (rest_keys entries) ≤ spare
    pub few : length entries + length (rest_keys entries) ≤ root_len t + 1
