-- The places of a heap under one of its places, and what a queue of places holds.
use Rattle.std.proofs.Common.{◌≡◌, ℕ, ◌+◌, ◌-◌, ◌*◌, ◌/◌, ◌<◌, ◌≤◌, List, [], ◌∷◌, length, refl, ◌∙◌, inl, inr, arith}
use Rattle.std.specs.List.{All}
use Rattle.std.proofs.lemmas.Bool.{cases_lt, cases_eq}
use Rattle.std.proofs.lemmas.List.Elements.{All-head, All-tail}
use Rattle.std.proofs.lemmas.List.Sums.{sum_by-cons}
use Rattle.rankings.specs.Order.{IsOrder}
use Rattle.take2_heap.specs.declared.entry.Entry.{Entry}
use Rattle.tdp_model.specs.Heap.{under}
use Rattle.tdp_model.specs.Remains.{AtMost}
use Rattle.tdp_model.proofs.Keys.{at_most_trans}
use Rattle.tdp_model.proofs.Subtrees.{same, same_not, climbs_split, climbs_all, climbs_ordered, climbs_above}
use Rattle.best_per.specs.RootHeap.{holds, held_by}
use Rattle.tdp_model.proofs.Picks.{pick_ge, pick_lt}

-- a place past the end of the heap holds nothing
pub none_past : (n j i : ℕ) → n ≤ j → holds n j i ≡ 0
unfolding holds
none_past n j i l = elim (cases_lt i n) [
  | inl less ↦ pick_lt i n (under j i) 0 less ∙ climbs_above i i j (omega (arith, less, l))
  | inr past ↦ pick_ge i n (under j i) 0 past
]

-- only places of the heap are held
pub held_within : (n j i : ℕ) → 0 < holds n j i → i < n
unfolding holds
held_within n j i h = elim (cases_lt i n) [ inl less ↦ less | inr past ↦ absurd (omega (arith, h, pick_ge i n (under j i) 0 past)) ]

-- the top holds each place once
pub top_holds : (n i : ℕ) → i < n → holds n 0 i ≡ 1
unfolding holds
top_holds n i l = pick_lt i n (under 0 i) 0 l ∙ climbs_all i i (omega arith)

pub top_holds_once : (n i : ℕ) → holds n 0 i ≤ 1
unfolding holds
top_holds_once n i = elim (cases_lt i n) [
  | inl less ↦ omega (arith, pick_lt i n (under 0 i) 0 less, climbs_all i i (omega arith))
  | inr past ↦ omega (arith, pick_ge i n (under 0 i) 0 past)
]

-- a place of the heap holds itself and what the two places below it hold
pub place_split : (n j i : ℕ) → j < n → holds n j i ≡ same i j + (holds n (2 * j + 1) i + holds n (2 * j + 2) i)
unfolding holds
place_split n j i l = elim (cases_lt i n) [
  | inl less ↦
      (let s = climbs_split i i j (omega arith) in
      omega (arith, s, pick_lt i n (under j i) 0 less, pick_lt i n (under (2 * j + 1) i) 0 less, pick_lt i n (under (2 * j + 2) i) 0 less))
  | inr past ↦
      (let d = same_not i j (λ e. omega (arith, e, l, past)) in
      omega (arith, d, pick_ge i n (under j i) 0 past, pick_ge i n (under (2 * j + 1) i) 0 past, pick_ge i n (under (2 * j + 2) i) 0 past))
]

pub only_itself : (j i : ℕ) → 0 < same i j → i ≡ j
only_itself j i h = elim (cases_eq i j) [ inl e ↦ e | inr d ↦ absurd (omega (arith, h, same_not i j d)) ]

module _ {K : Type 0} (Below : K → K → Type 0) (o : IsOrder K Below) (key : ℕ → K) (n : ℕ)
    (heap : (i : ℕ) → 0 < i → i < n → AtMost Below (key ((i - 1) / 2)) (key i)) where
  -- no place that a place holds has a smaller key
  pub held_after : (j i : ℕ) → 0 < holds n j i → AtMost Below (key j) (key i)
  unfolding holds
  held_after j i h =
      let less = held_within n j i h in
      climbs_ordered (λ x y. AtMost Below (key x) (key y)) n (λ x. inr refl) (λ x y z p q. at_most_trans Below o (key x) (key y) (key z) p q) heap i i j less
      (omega (arith, h, pick_lt i n (under j i) 0 less))

  -- nor has a place that any of the entries holds, if none of these entries is before k
  pub entries_after : {R : Type 0} (k : K) (es : List (Entry R ℕ)) → All (λ e. AtMost Below k (key e.tag)) es → (i : ℕ) → 0 < held_by n es i → AtMost Below k (key i)
  entries_after k [] all i h = absurd (omega (arith, h))
  entries_after {R} k (e ∷ es) all i h = elim (cases_lt 0 (holds n e.tag i)) [
    | inl here ↦ at_most_trans Below o k (key e.tag) (key i) (All-head (λ (x : Entry R ℕ). AtMost Below k (key x.tag)) e es all) (held_after e.tag i here)
    | inr none ↦
        entries_after k es (All-tail (λ (x : Entry R ℕ). AtMost Below k (key x.tag)) e es all) i
        (omega (arith, h, none, sum_by-cons (λ (x : Entry R ℕ). holds n x.tag i) e es))
  ]

-- an empty queue holds nothing
pub nothing_held : {R : Type 0} (n : ℕ) (es : List (Entry R ℕ)) (i : ℕ) → length es ≡ 0 → held_by n es i ≡ 0
nothing_held n [] i e = omega arith
nothing_held n (x ∷ es) i e = absurd (omega (arith, e))
