-- A product and a group grow by one solution, and what holds for them stays while the store grows.
use Rattle.std.proofs.Common.{◌≡◌, ℕ, suc, ◌+◌, ◌*◌, ◌<◌, ◌≤◌, Option, None, List, [], ◌∷◌, ◌++◌, map, length, take, drop, get_or, refl, sym, ap, ◌∙◌, subst, inr, arith}
use Rattle.std.specs.List.{All}
use Rattle.std.specs.List.Sorted.{IsPermutation}
use Rattle.std.proofs.lemmas.List.Elements.{All-nil, All-cons, All-head, All-tail, All-get_or}
use Rattle.take2_heap.specs.declared.entry.Entry.{Entry}
use Rattle.take2_heap.specs.Order.{IsLeast}
use Rattle.rankings.specs.Order.{IsAscending}
use Rattle.tdp_model.specs.Remains.{Remains, total}
use Rattle.tdp_model.specs.KeyTuple.{KeyOf, key_below, key_add, key_none}
use Rattle.tdp_model.proofs.KeyNumbers.{at_most_not_less}
use Rattle.tdp_model.specs.Product.{Pair, pair_key, stands_for, run_key}
use Rattle.suffix_streams.specs.Offers.{offers}
use Rattle.suffix_streams.specs.Ahead.{IsAhead}
use Rattle.suffix_streams.specs.QueueEntries.{IsHeld, places, InProduct, InRuns}
use Rattle.suffix_streams.specs.Reaches.{reaches, AreHeapOrdered}
use Rattle.suffix_streams.proofs.Held.{MaybeHolds, held_inside}
use Rattle.suffix_streams.proofs.Reaching.{few_entries}
use Rattle.suffix_streams.proofs.Steps.{product_passes, product_shows, product_done, group_passes, group_shows, group_done, IsDown, IsAcross, IsNext, IsBelow}
use Rattle.suffix_streams.specs.Frontiers.{IsFrontier, IsMerge}
use Rattle.suffix_streams.proofs.State.{first_more, first_more_by, all_more, count_more}

pub one_taken : {K : Type 0} (ks : List K) (d : K) → 0 < length ks → get_or ks 0 d ∷ [] ≡ take 1 ks
one_taken [] d l = absurd (omega arith)
one_taken (k ∷ ks) d l = refl

module _ {R T : Type 0} (d : ℕ) (key : R → KeyOf d 16) (xs ys zs : List (KeyOf d 16)) (ax : IsAscending (key_below d 16) xs) (ay : IsAscending (key_below d 16) ys) (at : T → Pair) where
  -- the last solution is passed, and what follows it is in the frontier
  passed_on : (found : List T) (old new : List (Entry R T)) (a b : Option (Entry R T)) (top : Entry R T) → IsFrontier d key at xs ys zs found old → 0 < length old → top ≡ get_or old 0 top → IsLeast d key top old
      → IsPermutation (offers a b old) (top ∷ new) → MaybeHolds (IsHeld d key (pair_key (key_add d 16) (key_none d 16) xs ys) (InProduct d xs ys) at) a
      → MaybeHolds (IsHeld d key (pair_key (key_add d 16) (key_none d 16) xs ys) (InProduct d xs ys) at) b
      → InProduct d xs ys (at top.tag) → IsDown d key xs ys at (at top.tag) a → IsAcross d key xs ys at (at top.tag) b
      → All (IsHeld d key (pair_key (key_add d 16) (key_none d 16) xs ys) (InProduct d xs ys) at) new
      × Remains Pair (KeyOf d 16) (key_below d 16) (pair_key (key_add d 16) (key_none d 16) xs ys) (total (stands_for (length xs) (length ys)) (places at new)) (drop (length found) zs)
  passed_on found old new a b top f some is_top least moved ha hb inside da ab =
      product_passes d key xs ys at ax ay zs (length found) a b top old new f.held some is_top least moved ha hb inside da ab f.ahead

  -- One more solution is found: the new top's.
  pub frontier_grows : (found : List T) (old new : List (Entry R T)) (a b : Option (Entry R T)) (top next : Entry R T) → IsFrontier d key at xs ys zs found old
      → 0 < length old → top ≡ get_or old 0 top → IsLeast d key top old
      → IsPermutation (offers a b old) (top ∷ new) → MaybeHolds (IsHeld d key (pair_key (key_add d 16) (key_none d 16) xs ys) (InProduct d xs ys) at) a
      → MaybeHolds (IsHeld d key (pair_key (key_add d 16) (key_none d 16) xs ys) (InProduct d xs ys) at) b
      → InProduct d xs ys (at top.tag) → IsDown d key xs ys at (at top.tag) a → IsAcross d key xs ys at (at top.tag) b
      → 0 < length new → next ≡ get_or new 0 next → IsLeast d key next new
      → (length found < length zs) × (get_or zs (length found) (key_none d 16) ≡ key next.rank) × IsFrontier d key at xs ys zs (found ++ (next.tag ∷ [])) new
  frontier_grows found old new a b top next f some is_top least moved ha hb inside da ab more is_next next_least =
      let p : All (IsHeld d key (pair_key (key_add d 16) (key_none d 16) xs ys) (InProduct d xs ys) at) new
      × Remains Pair (KeyOf d 16) (key_below d 16) (pair_key (key_add d 16) (key_none d 16) xs ys) (total (stands_for (length xs) (length ys)) (places at new)) (drop (length found) zs) =
      passed_on found old new a b top f some is_top least moved ha hb inside da ab in
      let s : (length found < length zs) × (get_or zs (length found) (key_none d 16) ≡ key next.rank)
      × IsAhead Pair (KeyOf d 16) (key_below d 16) (pair_key (key_add d 16) (key_none d 16) xs ys) (stands_for (length xs) (length ys)) (InProduct d xs ys) zs (suc (length found)) (places at new) =
      product_shows d key xs ys at ax ay zs (length found) next new p.0 more is_next next_least p.1 in
      let h : IsHeld d key (pair_key (key_add d 16) (key_none d 16) xs ys) (InProduct d xs ys) at next =
      subst (IsHeld d key (pair_key (key_add d 16) (key_none d 16) xs ys) (InProduct d xs ys) at) (sym is_next) (All-get_or (IsHeld d key (pair_key (key_add d 16) (key_none d 16) xs ys) (InProduct d xs ys) at) new 0 next more p.0) in (
        s.0,
        s.1,
        record {
          prefix = first_more_by d (λ c. pair_key (key_add d 16) (key_none d 16) xs ys (at c)) found next.tag zs (key_none d 16) f.prefix s.0 (s.1 ∙ h.1);
          kept = all_more (λ c. InProduct d xs ys (at c)) found next.tag f.kept h.0;
          held = p.0;
          ahead = subst (λ n. IsAhead Pair (KeyOf d 16) (key_below d 16) (pair_key (key_add d 16) (key_none d 16) xs ys) (stands_for (length xs) (length ys)) (InProduct d xs ys) zs n (places at new)) (sym (count_more found next.tag)) s.2;
        },
      )

  -- There is no further solution.
  pub frontier_ends : (found : List T) (old : List (Entry R T)) (a b : Option (Entry R T)) (top : Entry R T) → IsFrontier d key at xs ys zs found old
      → 0 < length old → top ≡ get_or old 0 top → IsLeast d key top old
      → IsPermutation (offers a b old) (top ∷ []) → MaybeHolds (IsHeld d key (pair_key (key_add d 16) (key_none d 16) xs ys) (InProduct d xs ys) at) a
      → MaybeHolds (IsHeld d key (pair_key (key_add d 16) (key_none d 16) xs ys) (InProduct d xs ys) at) b
      → InProduct d xs ys (at top.tag) → IsDown d key xs ys at (at top.tag) a → IsAcross d key xs ys at (at top.tag) b
      → (length found ≡ length zs) × IsFrontier d key at xs ys zs found []
  frontier_ends found old a b top f some is_top least moved ha hb inside da ab =
      let p : All (IsHeld d key (pair_key (key_add d 16) (key_none d 16) xs ys) (InProduct d xs ys) at) []
      × Remains Pair (KeyOf d 16) (key_below d 16) (pair_key (key_add d 16) (key_none d 16) xs ys) (total (stands_for (length xs) (length ys)) []) (drop (length found) zs) =
      passed_on found old [] a b top f some is_top least moved ha hb inside da ab in
      let s : IsAhead Pair (KeyOf d 16) (key_below d 16) (pair_key (key_add d 16) (key_none d 16) xs ys) (stands_for (length xs) (length ys)) (InProduct d xs ys) zs (length found) [] × (length found ≡ length zs) =
      product_done d key xs ys at ax ay zs (length found) f.prefix.0 f.prefix.1 p.1 in
      (s.1, record { prefix = f.prefix; kept = f.kept; held = p.0; ahead = s.0 })

  -- A product begins with the sum of the two heads.
  pub frontier_begins : (entry : Entry R T) → 0 < length xs → 0 < length ys → at entry.tag ≡ record { left = 0; right = 0 }
      → key entry.rank ≡ key_add d 16 (get_or xs 0 (key_none d 16)) (get_or ys 0 (key_none d 16))
      → Remains Pair (KeyOf d 16) (key_below d 16) (pair_key (key_add d 16) (key_none d 16) xs ys) (total (stands_for (length xs) (length ys)) ((record { left = 0; right = 0 }) ∷ [])) zs
      → (get_or zs 0 (key_none d 16) ≡ key entry.rank) × IsFrontier d key at xs ys zs (entry.tag ∷ []) (entry ∷ [])
  frontier_begins entry sx sy place rank q =
      let own : IsHeld d key (pair_key (key_add d 16) (key_none d 16) xs ys) (InProduct d xs ys) at entry =
      (subst (λ p. InProduct d xs ys p) (sym place) (sx, sy), rank ∙ ap (λ p. pair_key (key_add d 16) (key_none d 16) xs ys p) (sym place)) in
      let held : All (IsHeld d key (pair_key (key_add d 16) (key_none d 16) xs ys) (InProduct d xs ys) at) (entry ∷ []) = All-cons (IsHeld d key (pair_key (key_add d 16) (key_none d 16) xs ys) (InProduct d xs ys) at) entry [] own (All-nil (IsHeld d key (pair_key (key_add d 16) (key_none d 16) xs ys) (InProduct d xs ys) at)) in
      let s : (0 < length zs) × (get_or zs 0 (key_none d 16) ≡ key entry.rank)
      × IsAhead Pair (KeyOf d 16) (key_below d 16) (pair_key (key_add d 16) (key_none d 16) xs ys) (stands_for (length xs) (length ys)) (InProduct d xs ys) zs 1 (places at (entry ∷ [])) =
      product_shows d key xs ys at ax ay zs 0 entry (entry ∷ []) held (omega arith) refl (at_most_not_less d 16 (key entry.rank) (key entry.rank) (inr refl), tt)
      (subst (λ p. Remains Pair (KeyOf d 16) (key_below d 16) (pair_key (key_add d 16) (key_none d 16) xs ys) (total (stands_for (length xs) (length ys)) (p ∷ [])) zs) (sym place) q) in (
        s.1,
        record {
          prefix = (omega arith, s.0, ap (λ k. k ∷ []) (sym (s.1 ∙ own.1)) ∙ one_taken zs (key_none d 16) s.0);
          kept = All-cons (λ c. InProduct d xs ys (at c)) entry.tag [] own.0 (All-nil (λ c. InProduct d xs ys (at c)));
          held = held;
          ahead = s.2;
        },
      )

-- # A group

module _ {R T : Type 0} (d : ℕ) (key : R → KeyOf d 16) (n : ℕ) (lists : ℕ → List (KeyOf d 16)) (zs : List (KeyOf d 16))
    (asc : (r : ℕ) → r < n → IsAscending (key_below d 16) (lists r)) (heap : AreHeapOrdered d n lists) (at : T → Pair) where
  -- One more member of the group's ranking is found: the new top's.
  pub merge_grows : (found old new : List (Entry R T)) (a b c : Option (Entry R T)) (top next : Entry R T) → IsMerge d key at n lists zs found old
      → 0 < length old → top ≡ get_or old 0 top → IsLeast d key top old → IsPermutation (offers c None (offers a b old)) (top ∷ new)
      → MaybeHolds (IsHeld d key (run_key (key_none d 16) lists) (InRuns d n lists) at) a → MaybeHolds (IsHeld d key (run_key (key_none d 16) lists) (InRuns d n lists) at) b
      → MaybeHolds (IsHeld d key (run_key (key_none d 16) lists) (InRuns d n lists) at) c → InRuns d n lists (at top.tag) → IsNext d key n lists at (at top.tag) a
      → IsBelow d key n lists at (at top.tag) (2 * (at top.tag).left + 1) b → IsBelow d key n lists at (at top.tag) (2 * (at top.tag).left + 2) c
      → 0 < length new → next ≡ get_or new 0 next → IsLeast d key next new
      → (length found < length zs) × IsMerge d key at n lists zs (found ++ (next ∷ [])) new
  merge_grows found old new a b c top next f some is_top least moved ha hb hc inside na nb nc more is_next next_least =
      let p : All (IsHeld d key (run_key (key_none d 16) lists) (InRuns d n lists) at) new
      × Remains Pair (KeyOf d 16) (key_below d 16) (run_key (key_none d 16) lists) (total (reaches n (λ r. length (lists r))) (places at new)) (drop (length found) zs) =
      group_passes d key n lists at asc heap zs (length found) a b c top old new f.held some is_top least moved ha hb hc inside na nb nc f.ahead in
      let s : (length found < length zs) × (get_or zs (length found) (key_none d 16) ≡ key next.rank)
      × IsAhead Pair (KeyOf d 16) (key_below d 16) (run_key (key_none d 16) lists) (reaches n (λ r. length (lists r))) (InRuns d n lists) zs (suc (length found)) (places at new) =
      group_shows d key n lists at asc heap zs (length found) next new p.0 more is_next next_least p.1 in (
        s.0,
        record {
          prefix = first_more d key found next zs (key_none d 16) f.prefix s.0 s.1;
          kept = all_more (IsHeld d key (run_key (key_none d 16) lists) (InRuns d n lists) at) found next f.kept
              (subst (IsHeld d key (run_key (key_none d 16) lists) (InRuns d n lists) at) (sym is_next) (All-get_or (IsHeld d key (run_key (key_none d 16) lists) (InRuns d n lists) at) new 0 next more p.0));
          held = p.0;
          ahead = subst (λ k. IsAhead Pair (KeyOf d 16) (key_below d 16) (run_key (key_none d 16) lists) (reaches n (λ r. length (lists r))) (InRuns d n lists) zs k (places at new)) (sym (count_more found next)) s.2;
        },
      )

  -- The queue that is left has at most one entry of each member.
  pub merge_few : (found old new : List (Entry R T)) (a b c : Option (Entry R T)) (top : Entry R T) → IsMerge d key at n lists zs found old
      → 0 < length old → top ≡ get_or old 0 top → IsLeast d key top old → IsPermutation (offers c None (offers a b old)) (top ∷ new)
      → MaybeHolds (IsHeld d key (run_key (key_none d 16) lists) (InRuns d n lists) at) a → MaybeHolds (IsHeld d key (run_key (key_none d 16) lists) (InRuns d n lists) at) b
      → MaybeHolds (IsHeld d key (run_key (key_none d 16) lists) (InRuns d n lists) at) c → InRuns d n lists (at top.tag) → IsNext d key n lists at (at top.tag) a
      → IsBelow d key n lists at (at top.tag) (2 * (at top.tag).left + 1) b → IsBelow d key n lists at (at top.tag) (2 * (at top.tag).left + 2) c
      → length new ≤ n
  merge_few found old new a b c top f some is_top least moved ha hb hc inside na nb nc =
      let p : All (IsHeld d key (run_key (key_none d 16) lists) (InRuns d n lists) at) new
      × Remains Pair (KeyOf d 16) (key_below d 16) (run_key (key_none d 16) lists) (total (reaches n (λ r. length (lists r))) (places at new)) (drop (length found) zs) =
      group_passes d key n lists at asc heap zs (length found) a b c top old new f.held some is_top least moved ha hb hc inside na nb nc f.ahead in
      omega (arith, few_entries d n lists (places at new) (held_inside d key (run_key (key_none d 16) lists) (InRuns d n lists) at new p.0) p.1.once, length_places new)
    where
      length_places : (es : List (Entry R T)) → length (places at es) ≡ length es
      length_places [] = refl
      length_places (e ∷ es) = omega (arith, length_places es)

  -- There is no further member.
  pub merge_ends : (found old : List (Entry R T)) (a b c : Option (Entry R T)) (top : Entry R T) → IsMerge d key at n lists zs found old
      → 0 < length old → top ≡ get_or old 0 top → IsLeast d key top old → IsPermutation (offers c None (offers a b old)) (top ∷ [])
      → MaybeHolds (IsHeld d key (run_key (key_none d 16) lists) (InRuns d n lists) at) a → MaybeHolds (IsHeld d key (run_key (key_none d 16) lists) (InRuns d n lists) at) b
      → MaybeHolds (IsHeld d key (run_key (key_none d 16) lists) (InRuns d n lists) at) c → InRuns d n lists (at top.tag) → IsNext d key n lists at (at top.tag) a
      → IsBelow d key n lists at (at top.tag) (2 * (at top.tag).left + 1) b → IsBelow d key n lists at (at top.tag) (2 * (at top.tag).left + 2) c
      → (length found ≡ length zs) × IsMerge d key at n lists zs found []
  merge_ends found old a b c top f some is_top least moved ha hb hc inside na nb nc =
      let p : All (IsHeld d key (run_key (key_none d 16) lists) (InRuns d n lists) at) []
      × Remains Pair (KeyOf d 16) (key_below d 16) (run_key (key_none d 16) lists) (total (reaches n (λ r. length (lists r))) []) (drop (length found) zs) =
      group_passes d key n lists at asc heap zs (length found) a b c top old [] f.held some is_top least moved ha hb hc inside na nb nc f.ahead in
      let s : IsAhead Pair (KeyOf d 16) (key_below d 16) (run_key (key_none d 16) lists) (reaches n (λ r. length (lists r))) (InRuns d n lists) zs (length found) [] × (length found ≡ length zs) =
      group_done d key n lists at asc heap zs (length found) f.prefix.0 f.prefix.1 p.1 in
      (s.1, record { prefix = f.prefix; kept = f.kept; held = p.0; ahead = s.0 })

-- # What stays while the store grows

-- things whose places stay have the same keys, and stay in range
pub keys_kept : {T X K : Type 0} (key_at : X → K) (at later : T → X) (Known : T → Type 0) → ((c : T) → Known c → at c ≡ later c) → (cs : List T) → All Known cs → map (λ c. key_at (at c)) cs ≡ map (λ c. key_at (later c)) cs
keys_kept key_at at later Known same [] a = refl
keys_kept key_at at later Known same (c ∷ cs) a =
    ap (λ z. key_at z ∷ map (λ c. key_at (at c)) cs) (same c (All-head Known c cs a)) ∙ ap (λ z. key_at (later c) ∷ z) (keys_kept key_at at later Known same cs (All-tail Known c cs a))

pub range_kept : {T X : Type 0} (InRange : X → Type 0) (at later : T → X) (Known : T → Type 0) → ((c : T) → Known c → at c ≡ later c) → (cs : List T) → All Known cs → All (λ c. InRange (at c)) cs → All (λ c. InRange (later c)) cs
range_kept InRange at later Known same [] a h = All-nil (λ c. InRange (later c))
range_kept InRange at later Known same (c ∷ cs) a h =
    All-cons (λ c. InRange (later c)) c cs (subst InRange (same c (All-head Known c cs a)) (All-head (λ c. InRange (at c)) c cs h)) (range_kept InRange at later Known same cs (All-tail Known c cs a) (All-tail (λ c. InRange (at c)) c cs h))

module _ {R T X : Type 0} (d : ℕ) (rank_key : R → KeyOf d 16) (key_at : X → KeyOf d 16) (InRange : X → Type 0) (at later : T → X) (Known : Entry R T → Type 0)
    (same : (e : Entry R T) → Known e → at e.tag ≡ later e.tag) where
  -- entries whose places stay stand for the same solutions
  pub places_kept : (es : List (Entry R T)) → All Known es → places at es ≡ places later es
  places_kept [] a = refl
  places_kept (e ∷ es) a = ap (λ z. z ∷ places at es) (same e (All-head Known e es a)) ∙ ap (λ z. later e.tag ∷ z) (places_kept es (All-tail Known e es a))

  pub held_kept : (es : List (Entry R T)) → All Known es → All (IsHeld d rank_key key_at InRange at) es → All (IsHeld d rank_key key_at InRange later) es
  held_kept [] a h = All-nil (IsHeld d rank_key key_at InRange later)
  held_kept (e ∷ es) a h =
      let x : IsHeld d rank_key key_at InRange at e = All-head (IsHeld d rank_key key_at InRange at) e es h in
      let s : at e.tag ≡ later e.tag = same e (All-head Known e es a) in
      All-cons (IsHeld d rank_key key_at InRange later) e es (subst (λ z. InRange z × (rank_key e.rank ≡ key_at z)) s x) (held_kept es (All-tail Known e es a) (All-tail (IsHeld d rank_key key_at InRange at) e es h))
