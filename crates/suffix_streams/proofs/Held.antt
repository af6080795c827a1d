-- The entries of a queue as places of what is enumerated.
use Rattle.std.proofs.Common.{◌≡◌, ℕ, zero, suc, ◌+◌, ◌<◌, Option, Some, None, List, [], ◌∷◌, length, get_or, refl, subst, inl, inr, arith}
use Rattle.std.specs.List.{sum_by, All}
use Rattle.std.specs.List.Sorted.{IsPermutation}
use Rattle.std.proofs.lemmas.List.Sums.{sum_by-cons}
use Rattle.std.proofs.lemmas.List.Sorted.{sum_by-IsPermutation, All-permutation}
use Rattle.std.proofs.lemmas.List.Elements.{All-cons, All-head, All-tail}
use Rattle.rankings.specs.Order.{IsMember}
use Rattle.tdp_model.specs.Remains.{AtMost, total}
use Rattle.tdp_model.specs.KeyTuple.{KeyOf, key_below}
use Rattle.tdp_model.proofs.KeyNumbers.{not_less_at_most}
use Rattle.take2_heap.specs.declared.entry.Entry.{Entry}
use Rattle.take2_heap.specs.Order.{IsLeast}
use Rattle.suffix_streams.specs.Offers.{offers}
use Rattle.suffix_streams.specs.Ahead.{AllInside, NoneBelow}
use Rattle.suffix_streams.specs.QueueEntries.{IsHeld, places}

-- what an entry that may be offered counts for
abbrev pub maybe_count : {E : Type 0} → (E → ℕ) → Option E → ℕ
maybe_count f (Some x) = f x
maybe_count f None = 0

sum_offers : {E : Type 0} (f : E → ℕ) (a b : Option E) (es : List E) → sum_by f (offers a b es) ≡ maybe_count f a + maybe_count f b + sum_by f es
sum_offers f (Some x) (Some y) es = omega (arith, sum_by-cons f y (x ∷ es), sum_by-cons f x es)
sum_offers f (Some x) None es = omega (arith, sum_by-cons f x es)
sum_offers f None (Some y) es = omega (arith, sum_by-cons f y es)
sum_offers f None None es = omega arith

-- what holds of an entry that may be offered
abbrev pub MaybeHolds : {E : Type 0} → (E → Type 0) → Option E → Type 0
MaybeHolds P (Some x) = P x
MaybeHolds P None = Unit {0}

pub all_offers : {E : Type 0} (P : E → Type 0) (a b : Option E) (es : List E) → MaybeHolds P a → MaybeHolds P b → All P es → All P (offers a b es)
all_offers P (Some x) (Some y) es p q r = All-cons P y (x ∷ es) q (All-cons P x es p r)
all_offers P (Some x) None es p q r = All-cons P x es p r
all_offers P None (Some y) es p q r = All-cons P y es q r
all_offers P None None es p q r = r

module _ {R T X : Type 0} (d : ℕ) (rank_key : R → KeyOf d 16) (key_at : X → KeyOf d 16) (InRange : X → Type 0) (at : T → X) where
  pub held_inside : (es : List (Entry R T)) → All (IsHeld d rank_key key_at InRange at) es → AllInside InRange (places at es)
  held_inside [] a = tt
  held_inside (e ∷ es) a = ((All-head (IsHeld d rank_key key_at InRange at) e es a).0, held_inside es (All-tail (IsHeld d rank_key key_at InRange at) e es a))

  pub held_least : (x : Entry R T) (es : List (Entry R T)) → All (IsHeld d rank_key key_at InRange at) es → IsLeast d rank_key x es → IsHeld d rank_key key_at InRange at x → NoneBelow (key_below d 16) key_at (key_at (at x.tag)) (places at es)
  held_least x [] a l h = tt
  held_least x (e ∷ es) a l h =
      let p : AtMost (key_below d 16) (rank_key x.rank) (rank_key e.rank) = not_less_at_most d 16 (rank_key e.rank) (rank_key x.rank) l.0 in
      (subst (λ z. AtMost (key_below d 16) z (key_at (at e.tag))) h.1 (subst (λ z. AtMost (key_below d 16) (rank_key x.rank) z) (All-head (IsHeld d rank_key key_at InRange at) e es a).1 p), held_least x es (All-tail (IsHeld d rank_key key_at InRange at) e es a) l.1 h)

  pub held_member : (es : List (Entry R T)) (i : ℕ) (e : Entry R T) → i < length es → IsMember (at (get_or es i e).tag) (places at es)
  held_member [] i e l = absurd (omega arith)
  held_member (x ∷ es) zero e l = inl refl
  held_member (x ∷ es) (suc i) e l = inr (held_member es i e (omega arith))

  total_places : (count : X → X → ℕ) (es : List (Entry R T)) (x : X) → total count (places at es) x ≡ sum_by (λ e. count (at e.tag) x) es
  unfolding total
  total_places count [] x = refl
  total_places count (e ∷ es) x = omega (arith, total_places count es x, sum_by-cons (λ e. count (at e.tag) x) e es)

  -- what the entries stand for, where some are offered and one leaves
  pub moved_total : (count : X → X → ℕ) (a b c : Option (Entry R T)) (t : Entry R T) (old new : List (Entry R T)) → IsPermutation (offers c None (offers a b old)) (t ∷ new) → (x : X)
      → maybe_count (λ e. count (at e.tag) x) a + maybe_count (λ e. count (at e.tag) x) b + maybe_count (λ e. count (at e.tag) x) c + total count (places at old) x ≡ count (at t.tag) x + total count (places at new) x
  moved_total count a b c t old new p x =
      let f : Entry R T → ℕ = λ e. count (at e.tag) x in
      omega (arith, sum_offers f a b old, sum_offers f c None (offers a b old), sum_by-IsPermutation f (offers c None (offers a b old)) (t ∷ new) p, sum_by-cons f t new, total_places count old x, total_places count new x)

  -- each entry that is left is at its place
  pub held_moved : (a b c : Option (Entry R T)) (t : Entry R T) (old new : List (Entry R T)) → IsPermutation (offers c None (offers a b old)) (t ∷ new)
      → MaybeHolds (IsHeld d rank_key key_at InRange at) a → MaybeHolds (IsHeld d rank_key key_at InRange at) b → MaybeHolds (IsHeld d rank_key key_at InRange at) c
      → All (IsHeld d rank_key key_at InRange at) old → All (IsHeld d rank_key key_at InRange at) new
  held_moved a b c t old new p ha hb hc h =
      All-tail (IsHeld d rank_key key_at InRange at) t new
      (All-permutation (IsHeld d rank_key key_at InRange at) (offers c None (offers a b old)) (t ∷ new) p (all_offers (IsHeld d rank_key key_at InRange at) c None (offers a b old) hc tt (all_offers (IsHeld d rank_key key_at InRange at) a b old ha hb h)))
