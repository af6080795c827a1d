-- Rankings whose first members are known, with a queue of what follows.
use Rattle.std.specs.Prelude.{◌≡◌, ℕ, ◌<◌, ◌≤◌, List, map, length, take}
use Rattle.std.specs.List.{All}
use Rattle.take2_heap.specs.declared.entry.Entry.{Entry}
use Rattle.tdp_model.specs.KeyTuple.{KeyOf, key_below, key_add, key_none}
use Rattle.tdp_model.specs.Product.{Pair, pair_key, stands_for, run_key}
use Rattle.suffix_streams.specs.Ahead.{IsAhead}
use Rattle.suffix_streams.specs.QueueEntries.{IsHeld, places, InProduct, InRuns}
use Rattle.suffix_streams.specs.Reaches.{reaches}

-- some of the ranking's first members, by their keys
abbrev pub AreFirstBy : {X : Type 0} (d : ℕ) → (X → KeyOf d 16) → List X
    → List (KeyOf d 16) → Type 0
AreFirstBy d key_at xs ks = (0 < length xs) × (length xs ≤ length ks)
    × (map key_at xs ≡ take (length xs) ks)

abbrev pub AreFirst : {R T : Type 0} (d : ℕ) → (R → KeyOf d 16) → List (Entry R T)
    → List (KeyOf d 16) → Type 0
AreFirst d key xs ks = AreFirstBy d (λ e. key e.rank) xs ks

-- the first sums of xs and ys, by the places of their parts, in the order of their ranking zs, and
-- a queue of what follows
pub record IsFrontier {R T : Type 0} (d : ℕ) (key : R → KeyOf d 16) (at : T → Pair)
    (xs ys zs : List (KeyOf d 16)) (found : List T) (frontier : List (Entry R T)) : Type 0 where
  pub prefix : AreFirstBy d (λ c. pair_key (key_add d 16) (key_none d 16) xs ys (at c)) found zs
  pub kept : All (λ c. InProduct d xs ys (at c)) found
  pub held : All (IsHeld d key (pair_key (key_add d 16) (key_none d 16) xs ys)
      (InProduct d xs ys) at) frontier
  pub ahead : IsAhead Pair (KeyOf d 16) (key_below d 16)
      (pair_key (key_add d 16) (key_none d 16) xs ys) (stands_for (length xs) (length ys))
      (InProduct d xs ys) zs (length found) (places at frontier)

-- the first members of n lists, in the order of their ranking zs, and a queue of what follows
pub record IsMerge {R T : Type 0} (d : ℕ) (key : R → KeyOf d 16) (at : T → Pair) (n : ℕ)
    (lists : ℕ → List (KeyOf d 16)) (zs : List (KeyOf d 16))
    (found queue : List (Entry R T)) : Type 0 where
  pub prefix : AreFirst d key found zs
  pub kept : All (IsHeld d key (run_key (key_none d 16) lists) (InRuns d n lists) at) found
  pub held : All (IsHeld d key (run_key (key_none d 16) lists) (InRuns d n lists) at) queue
  pub ahead : IsAhead Pair (KeyOf d 16) (key_below d 16) (run_key (key_none d 16) lists)
      (reaches n (λ r. length (lists r))) (InRuns d n lists) zs (length found) (places at queue)
