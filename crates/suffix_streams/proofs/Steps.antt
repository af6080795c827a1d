-- One step of a queue of ranked entries, and its uses for a product and for a group.
use Rattle.std.proofs.Common.{◌≡◌, ◌≢◌, ℕ, zero, suc, ◌+◌, ◌*◌, ◌<◌, ◌≤◌, ◌⊎◌, Option, Some, None, Bool, true, false, cond, nat_eq, List, [], ◌∷◌, length, drop, get_or, sym, ap, ◌∙◌, subst, inl, inr, arith}
use Rattle.std.specs.List.{All}
use Rattle.std.specs.List.Sorted.{IsPermutation}
use Rattle.std.proofs.lemmas.List.Elements.{All-head, All-tail}
use Rattle.std.proofs.lemmas.Bool.Decides.{nat_tests}
use Rattle.rankings.specs.Order.{IsAscending, IsMember}
use Rattle.tdp_model.specs.Remains.{AtMost, Remains, total}
use Rattle.tdp_model.specs.KeyTuple.{KeyOf, key_below, key_add, key_none}
use Rattle.tdp_model.specs.Product.{Pair, pair_key, stands_for, same_pair, run_key}
use Rattle.tdp_model.proofs.KeyTuples.{tuple_keys}
use Rattle.tdp_model.proofs.Products.{product_divided, same_pair_at, same_pair_only, stands_none}
use Rattle.take2_heap.specs.declared.entry.Entry.{Entry}
use Rattle.take2_heap.specs.Order.{IsLeast}
use Rattle.suffix_streams.specs.Offers.{offers}
use Rattle.suffix_streams.specs.Ahead.{IsAhead}
use Rattle.suffix_streams.specs.QueueEntries.{IsHeld, places, InProduct, InRuns}
use Rattle.suffix_streams.specs.Reaches.{reaches, AreHeapOrdered}
use Rattle.suffix_streams.proofs.Held.{MaybeHolds, maybe_count, held_inside, held_least, held_member, held_moved, moved_total}
use Rattle.suffix_streams.proofs.Reaching.{reaches_split, reaches_least, reaches_past, later_none}
use Rattle.suffix_streams.proofs.Passing.{ahead_passes, ahead_next, ahead_done}

all_at : {E : Type 0} (P : E → Type 0) (es : List E) (i : ℕ) (e : E) → All P es → i < length es → P (get_or es i e)
all_at P [] i e a l = absurd (omega arith)
all_at P (x ∷ es) zero e a l = All-head P x es a
all_at P (x ∷ es) (suc i) e a l = all_at P es i e (All-tail P x es a) (omega arith)

module _ {R T X : Type 0} (d : ℕ) (rank_key : R → KeyOf d 16) (key_at : X → KeyOf d 16) (InRange : X → Type 0) (at : T → X) (count one : X → X → ℕ)
    (begins : (c x : X) → InRange c → 0 < count c x → AtMost (key_below d 16) (key_at c) (key_at x))
    (here : (f : X) → one f f ≡ 1) (once : (f x : X) → one f x ≤ 1) (only : (f x : X) → 0 < one f x → x ≡ f) (own : (f : X) → InRange f → 0 < count f f) where
  -- the top is passed: what follows it stands in its place
  pub queue_passes : (whole : List (KeyOf d 16)) (found : ℕ) (a b c : Option (Entry R T)) (t : Entry R T) (old new : List (Entry R T))
      → All (IsHeld d rank_key key_at InRange at) old → 0 < length old → t ≡ get_or old 0 t → IsLeast d rank_key t old → IsPermutation (offers c None (offers a b old)) (t ∷ new)
      → MaybeHolds (IsHeld d rank_key key_at InRange at) a → MaybeHolds (IsHeld d rank_key key_at InRange at) b → MaybeHolds (IsHeld d rank_key key_at InRange at) c
      → ((x : X) → count (at t.tag) x ≡ one (at t.tag) x + (maybe_count (λ e. count (at e.tag) x) a + maybe_count (λ e. count (at e.tag) x) b + maybe_count (λ e. count (at e.tag) x) c))
      → IsAhead X (KeyOf d 16) (key_below d 16) key_at count InRange whole found (places at old)
      → All (IsHeld d rank_key key_at InRange at) new × Remains X (KeyOf d 16) (key_below d 16) key_at (total count (places at new)) (drop found whole)
  queue_passes whole found a b c t old new held some is_top least moved ha hb hc division ahead =
      let top : IsHeld d rank_key key_at InRange at t = subst (λ z. IsHeld d rank_key key_at InRange at z) (sym is_top) (all_at (IsHeld d rank_key key_at InRange at) old 0 t held some) in
      let m : IsMember (at t.tag) (places at old) =
      subst (λ z. IsMember (at z.tag) (places at old)) (sym is_top) (held_member d rank_key key_at InRange at old 0 t some) in (
        held_moved d rank_key key_at InRange at a b c t old new moved ha hb hc held,
        ahead_passes (key_below d 16) (tuple_keys d 16).order key_at count one InRange begins here once only own whole found (at t.tag) (places at old) (places at new) m
            (held_least d rank_key key_at InRange at t old held least top)
            (λ x. omega (arith, division x, moved_total d rank_key key_at InRange at count a b c t old new moved x)) ahead,
      )

  -- the new top is the next member of the ranking
  pub queue_shows : (whole : List (KeyOf d 16)) (found : ℕ) (t : Entry R T) (new : List (Entry R T)) (none : KeyOf d 16)
      → All (IsHeld d rank_key key_at InRange at) new → 0 < length new → t ≡ get_or new 0 t → IsLeast d rank_key t new
      → Remains X (KeyOf d 16) (key_below d 16) key_at (total count (places at new)) (drop found whole)
      → (found < length whole) × (get_or whole found none ≡ rank_key t.rank) × IsAhead X (KeyOf d 16) (key_below d 16) key_at count InRange whole (suc found) (places at new)
  queue_shows whole found t new none held some is_top least q =
      let top : IsHeld d rank_key key_at InRange at t = subst (λ z. IsHeld d rank_key key_at InRange at z) (sym is_top) (all_at (IsHeld d rank_key key_at InRange at) new 0 t held some) in
      let m : IsMember (at t.tag) (places at new) =
      subst (λ z. IsMember (at z.tag) (places at new)) (sym is_top) (held_member d rank_key key_at InRange at new 0 t some) in
      let s : (found < length whole) × (get_or whole found none ≡ key_at (at t.tag)) × IsAhead X (KeyOf d 16) (key_below d 16) key_at count InRange whole (suc found) (places at new) =
      ahead_next (key_below d 16) (tuple_keys d 16).order key_at count one InRange begins here once only own whole found (at t.tag) (places at new) none m
      (held_inside d rank_key key_at InRange at new held) (held_least d rank_key key_at InRange at t new held least top) q in
      (s.0, s.1 ∙ sym top.1, s.2)

-- # A product

both_count : (count : Pair → Pair → ℕ) (b : Bool) (u v p : Pair) → total count (cond b (u ∷ (v ∷ [])) (u ∷ [])) p ≡ count u p + cond b (count v p) 0
unfolding total
both_count count true u v p = omega arith
both_count count false u v p = omega arith

same_pair_few : (f p : Pair) → same_pair f p ≤ 1
same_pair_few f p = few f.left p.left f.right p.right
  where
    few : (i x j y : ℕ) → cond {A = ℕ} (nat_eq i x) (cond (nat_eq j y) 1 0) 0 ≤ 1
    few i x j y = grind (arith, nat_tests)

module _ {R T : Type 0} (d : ℕ) (rank_key : R → KeyOf d 16) (xs ys : List (KeyOf d 16)) (at : T → Pair) where
  abbrev pub sum_at : Pair → KeyOf d 16
  sum_at = pair_key (key_add d 16) (key_none d 16) xs ys

  -- what is offered down the row of the pair f, or the row ends there
  abbrev pub IsDown : Pair → Option (Entry R T) → Type 0
  IsDown f (Some e) = at e.tag ≡ record { left = f.left; right = f.right + 1 }
  IsDown f None = length ys ≤ f.right + 1

  -- what is offered across, from the pair that opens a row, or the rows end there
  abbrev pub IsAcross : Pair → Option (Entry R T) → Type 0
  IsAcross f (Some e) = (f.right ≡ 0) × (at e.tag ≡ record { left = f.left + 1; right = 0 })
  IsAcross f None = (f.right ≢ 0) ⊎ (length xs ≤ f.left + 1)

  down_count : (f : Pair) (a : Option (Entry R T)) (p : Pair) → IsDown f a
      → maybe_count (λ e. stands_for (length xs) (length ys) (at e.tag) p) a ≡ stands_for (length xs) (length ys) (record { left = f.left; right = f.right + 1 }) p
  down_count f (Some e) p h = ap (λ z. stands_for (length xs) (length ys) z p) h
  down_count f None p h = sym (stands_none (length xs) (length ys) (record { left = f.left; right = f.right + 1 }) p (inr h))

  across_count : (f : Pair) (b : Option (Entry R T)) (p : Pair) → IsAcross f b
      → maybe_count (λ e. stands_for (length xs) (length ys) (at e.tag) p) b ≡ cond (nat_eq f.right 0) (stands_for (length xs) (length ys) (record { left = f.left + 1; right = 0 }) p) 0
  across_count f (Some e) p h = ap (λ z. stands_for (length xs) (length ys) z p) h.1 ∙ at_zero f.right _ h.0
    where
      at_zero : (j x : ℕ) → j ≡ 0 → x ≡ cond (nat_eq j 0) x 0
      at_zero j x e = grind (arith, nat_tests)
  across_count f None p (inl n) = at_other f.right _ n
    where
      at_other : (j x : ℕ) → j ≢ 0 → 0 ≡ cond (nat_eq j 0) x 0
      at_other j x e = grind (arith, nat_tests)
  across_count f None p (inr l) = at_end f.right _ (stands_none (length xs) (length ys) (record { left = f.left + 1; right = 0 }) p (inl l))
    where
      at_end : (j x : ℕ) → x ≡ 0 → 0 ≡ cond (nat_eq j 0) x 0
      at_end j x e = grind (arith, nat_tests)

  -- what stands for the pairs after f are the entries that are offered
  pub product_division : IsAscending (key_below d 16) xs → IsAscending (key_below d 16) ys → (f : Pair) (a b : Option (Entry R T)) → InProduct d xs ys f → IsDown f a → IsAcross f b → (p : Pair)
      → stands_for (length xs) (length ys) f p
      ≡ same_pair f p + (maybe_count (λ e. stands_for (length xs) (length ys) (at e.tag) p) a + maybe_count (λ e. stands_for (length xs) (length ys) (at e.tag) p) b)
  unfolding total
  product_division ax ay f a b inside ha hb p =
      omega (arith, (product_divided (key_below d 16) (key_add d 16) (key_none d 16) (tuple_keys d 16) xs ys ax ay f inside.0 inside.1).split p, down_count f a p ha, across_count f b p hb, both_count (stands_for (length xs) (length ys)) (nat_eq f.right 0) (record { left = f.left; right = f.right + 1 }) (record { left = f.left + 1; right = 0 }) p)

  product_begins_at : IsAscending (key_below d 16) xs → IsAscending (key_below d 16) ys → (c x : Pair) → InProduct d xs ys c → 0 < stands_for (length xs) (length ys) c x → AtMost (key_below d 16) (sum_at c) (sum_at x)
  product_begins_at ax ay c x i h = (product_divided (key_below d 16) (key_add d 16) (key_none d 16) (tuple_keys d 16) xs ys ax ay c i.0 i.1).least x h

  product_own : IsAscending (key_below d 16) xs → IsAscending (key_below d 16) ys → (f : Pair) → InProduct d xs ys f → 0 < stands_for (length xs) (length ys) f f
  product_own ax ay f i = omega (arith, (product_divided (key_below d 16) (key_add d 16) (key_none d 16) (tuple_keys d 16) xs ys ax ay f i.0 i.1).split f, same_pair_at f)

  -- A product's top is passed.
  pub product_passes : IsAscending (key_below d 16) xs → IsAscending (key_below d 16) ys → (zs : List (KeyOf d 16)) (found : ℕ) (a b : Option (Entry R T)) (t : Entry R T) (old new : List (Entry R T))
      → All (IsHeld d rank_key sum_at (InProduct d xs ys) at) old → 0 < length old → t ≡ get_or old 0 t → IsLeast d rank_key t old → IsPermutation (offers a b old) (t ∷ new)
      → MaybeHolds (IsHeld d rank_key sum_at (InProduct d xs ys) at) a → MaybeHolds (IsHeld d rank_key sum_at (InProduct d xs ys) at) b → InProduct d xs ys (at t.tag) → IsDown (at t.tag) a → IsAcross (at t.tag) b
      → IsAhead Pair (KeyOf d 16) (key_below d 16) sum_at (stands_for (length xs) (length ys)) (InProduct d xs ys) zs found (places at old)
      → All (IsHeld d rank_key sum_at (InProduct d xs ys) at) new
      × Remains Pair (KeyOf d 16) (key_below d 16) sum_at (total (stands_for (length xs) (length ys)) (places at new)) (drop found zs)
  product_passes ax ay zs found a b t old new held some is_top least moved ha hb inside da ab ahead =
      queue_passes d rank_key sum_at (InProduct d xs ys) at (stands_for (length xs) (length ys)) same_pair (product_begins_at ax ay) same_pair_at same_pair_few same_pair_only (product_own ax ay)
      zs found a b None t old new held some is_top least moved ha hb tt (λ p. omega (arith, product_division ax ay (at t.tag) a b inside da ab p)) ahead

  -- The new top is the next solution of the row with its children up to this one.
  pub product_shows : IsAscending (key_below d 16) xs → IsAscending (key_below d 16) ys → (zs : List (KeyOf d 16)) (found : ℕ) (t : Entry R T) (new : List (Entry R T))
      → All (IsHeld d rank_key sum_at (InProduct d xs ys) at) new → 0 < length new → t ≡ get_or new 0 t → IsLeast d rank_key t new
      → Remains Pair (KeyOf d 16) (key_below d 16) sum_at (total (stands_for (length xs) (length ys)) (places at new)) (drop found zs)
      → (found < length zs) × (get_or zs found (key_none d 16) ≡ rank_key t.rank)
      × IsAhead Pair (KeyOf d 16) (key_below d 16) sum_at (stands_for (length xs) (length ys)) (InProduct d xs ys) zs (suc found) (places at new)
  product_shows ax ay zs found t new held some is_top least q =
      queue_shows d rank_key sum_at (InProduct d xs ys) at (stands_for (length xs) (length ys)) same_pair (product_begins_at ax ay) same_pair_at same_pair_few same_pair_only (product_own ax ay)
      zs found t new (key_none d 16) held some is_top least q

  -- Nothing is left: all are known.
  pub product_done : IsAscending (key_below d 16) xs → IsAscending (key_below d 16) ys → (zs : List (KeyOf d 16)) (found : ℕ) → 0 < found → found ≤ length zs
      → Remains Pair (KeyOf d 16) (key_below d 16) sum_at (total (stands_for (length xs) (length ys)) []) (drop found zs)
      → IsAhead Pair (KeyOf d 16) (key_below d 16) sum_at (stands_for (length xs) (length ys)) (InProduct d xs ys) zs found [] × (found ≡ length zs)
  product_done ax ay zs found some within q =
      ahead_done (key_below d 16) (tuple_keys d 16).order sum_at (stands_for (length xs) (length ys)) same_pair (InProduct d xs ys) (product_begins_at ax ay) same_pair_at same_pair_few same_pair_only (product_own ax ay)
      zs found some within q

-- # A group

module _ {R T : Type 0} (d : ℕ) (rank_key : R → KeyOf d 16) (n : ℕ) (lists : ℕ → List (KeyOf d 16)) (at : T → Pair) where
  -- the member's next solution, or none is left
  abbrev pub IsNext : Pair → Option (Entry R T) → Type 0
  IsNext f (Some e) = at e.tag ≡ record { left = f.left; right = f.right + 1 }
  IsNext f None = length (lists f.left) ≤ f.right + 1

  -- the first solution of member k, which is below the member whose first solution is f; none if f is a later solution, or
  -- if there is no such member
  abbrev pub IsBelow : Pair → ℕ → Option (Entry R T) → Type 0
  IsBelow f k (Some e) = (f.right ≡ 0) × (at e.tag ≡ record { left = k; right = 0 })
  IsBelow f k None = (f.right ≢ 0) ⊎ (n ≤ k)

  abbrev reach : Pair → Pair → ℕ
  reach = reaches n (λ r. length (lists r))

  next_count : (f : Pair) (a : Option (Entry R T)) (p : Pair) → IsNext f a → maybe_count (λ e. reach (at e.tag) p) a ≡ reach (record { left = f.left; right = f.right + 1 }) p
  next_count f (Some e) p h = ap (λ z. reach z p) h
  next_count f None p h = sym (later_none n (λ r. length (lists r)) f.left f.right p h)

  below_count : (f : Pair) (k : ℕ) (a : Option (Entry R T)) (p : Pair) → IsBelow f k a → maybe_count (λ e. reach (at e.tag) p) a ≡ cond (nat_eq f.right 0) (reach (record { left = k; right = 0 }) p) 0
  below_count f k (Some e) p h = ap (λ z. reach z p) h.1 ∙ at_zero f.right _ h.0
    where
      at_zero : (j x : ℕ) → j ≡ 0 → x ≡ cond (nat_eq j 0) x 0
      at_zero j x e = grind (arith, nat_tests)
  below_count f k None p (inl m) = at_other f.right _ m
    where
      at_other : (j x : ℕ) → j ≢ 0 → 0 ≡ cond (nat_eq j 0) x 0
      at_other j x e = grind (arith, nat_tests)
  below_count f k None p (inr l) = at_end f.right _ (reaches_past n (λ r. length (lists r)) k p l)
    where
      at_end : (j x : ℕ) → x ≡ 0 → 0 ≡ cond (nat_eq j 0) x 0
      at_end j x e = grind (arith, nat_tests)

  module _ (asc : (r : ℕ) → r < n → IsAscending (key_below d 16) (lists r)) (heap : AreHeapOrdered d n lists) where
    -- what stands for the places after f are the entries that are offered
    group_division : (f : Pair) (a b c : Option (Entry R T)) → InRuns d n lists f → IsNext f a → IsBelow f (2 * f.left + 1) b → IsBelow f (2 * f.left + 2) c → (p : Pair)
        → reach f p ≡ same_pair f p + (maybe_count (λ e. reach (at e.tag) p) a + maybe_count (λ e. reach (at e.tag) p) b + maybe_count (λ e. reach (at e.tag) p) c)
    group_division f a b c inside ha hb hc p =
        omega (arith, reaches_split d n lists asc f p inside, next_count f a p ha, below_count f (2 * f.left + 1) b p hb, below_count f (2 * f.left + 2) c p hc)

    group_own : (f : Pair) → InRuns d n lists f → 0 < reach f f
    group_own f i = omega (arith, reaches_split d n lists asc f f i, same_pair_at f)

    group_begins_at : (c x : Pair) → InRuns d n lists c → 0 < reach c x → AtMost (key_below d 16) (run_key (key_none d 16) lists c) (run_key (key_none d 16) lists x)
    group_begins_at c x i h = reaches_least d n lists asc heap c x i h

    -- A group's top is passed.
    pub group_passes : (zs : List (KeyOf d 16)) (found : ℕ) (a b c : Option (Entry R T)) (t : Entry R T) (old new : List (Entry R T))
        → All (IsHeld d rank_key (run_key (key_none d 16) lists) (InRuns d n lists) at) old → 0 < length old → t ≡ get_or old 0 t → IsLeast d rank_key t old → IsPermutation (offers c None (offers a b old)) (t ∷ new)
        → MaybeHolds (IsHeld d rank_key (run_key (key_none d 16) lists) (InRuns d n lists) at) a → MaybeHolds (IsHeld d rank_key (run_key (key_none d 16) lists) (InRuns d n lists) at) b
        → MaybeHolds (IsHeld d rank_key (run_key (key_none d 16) lists) (InRuns d n lists) at) c
        → (InRuns d n lists) (at t.tag) → IsNext (at t.tag) a → IsBelow (at t.tag) (2 * (at t.tag).left + 1) b → IsBelow (at t.tag) (2 * (at t.tag).left + 2) c
        → IsAhead Pair (KeyOf d 16) (key_below d 16) (run_key (key_none d 16) lists) reach (InRuns d n lists) zs found (places at old)
        → All (IsHeld d rank_key (run_key (key_none d 16) lists) (InRuns d n lists) at) new
        × Remains Pair (KeyOf d 16) (key_below d 16) (run_key (key_none d 16) lists) (total reach (places at new)) (drop found zs)
    group_passes zs found a b c t old new held some is_top least moved ha hb hc inside na nb nc ahead =
        queue_passes d rank_key (run_key (key_none d 16) lists) (InRuns d n lists) at reach same_pair group_begins_at same_pair_at same_pair_few same_pair_only group_own
        zs found a b c t old new held some is_top least moved ha hb hc (λ p. group_division (at t.tag) a b c inside na nb nc p) ahead

    -- The new top is the next member of the group's ranking.
    pub group_shows : (zs : List (KeyOf d 16)) (found : ℕ) (t : Entry R T) (new : List (Entry R T))
        → All (IsHeld d rank_key (run_key (key_none d 16) lists) (InRuns d n lists) at) new → 0 < length new → t ≡ get_or new 0 t → IsLeast d rank_key t new
        → Remains Pair (KeyOf d 16) (key_below d 16) (run_key (key_none d 16) lists) (total reach (places at new)) (drop found zs)
        → (found < length zs) × (get_or zs found (key_none d 16) ≡ rank_key t.rank)
        × IsAhead Pair (KeyOf d 16) (key_below d 16) (run_key (key_none d 16) lists) reach (InRuns d n lists) zs (suc found) (places at new)
    group_shows zs found t new held some is_top least q =
        queue_shows d rank_key (run_key (key_none d 16) lists) (InRuns d n lists) at reach same_pair group_begins_at same_pair_at same_pair_few same_pair_only group_own
        zs found t new (key_none d 16) held some is_top least q

    -- Nothing is left: all are known.
    pub group_done : (zs : List (KeyOf d 16)) (found : ℕ) → 0 < found → found ≤ length zs
        → Remains Pair (KeyOf d 16) (key_below d 16) (run_key (key_none d 16) lists) (total reach []) (drop found zs)
        → IsAhead Pair (KeyOf d 16) (key_below d 16) (run_key (key_none d 16) lists) reach (InRuns d n lists) zs found [] × (found ≡ length zs)
    group_done zs found some within q =
        ahead_done (key_below d 16) (tuple_keys d 16).order (run_key (key_none d 16) lists) reach same_pair (InRuns d n lists) group_begins_at same_pair_at same_pair_few same_pair_only group_own
        zs found some within q
