-- A queue whose least entry is passed: what it gives, and what the queue then holds.
use Rattle.std.proofs.Common.{◌≡◌, ℕ, zero, suc, ◌+◌, ◌-◌, ◌<◌, ◌≤◌, List, [], ◌∷◌, length, drop, get_or, refl, sym, ap, ◌∙◌, subst, inl, inr, arith}
use Rattle.std.proofs.lemmas.Bool.{cases_lt}
use Rattle.rankings.specs.Order.{IsOrder, IsMember}
use Rattle.tdp_model.specs.Remains.{AtMost, Remains, total}
use Rattle.tdp_model.proofs.Removal.{take_least, none_left}
use Rattle.tdp_model.proofs.Keys.{at_most_trans}
use Rattle.suffix_streams.specs.Ahead.{AllInside, NoneBelow, IsAhead}

-- a list that is empty has no first element
nil_cons : {K : Type 0} (k : K) (ks : List K) → [] ≡ k ∷ ks → ⊥
nil_cons k ks e = let h : 0 ≡ suc (length ks) = ap length e in omega (arith, h)

drop_head : {K : Type 0} (xs : List K) (n : ℕ) (k : K) (ks : List K) (d : K) → drop n xs ≡ k ∷ ks → (n < length xs) × (get_or xs n d ≡ k) × (drop (suc n) xs ≡ ks)
drop_head [] zero k ks d e = absurd (nil_cons k ks e)
drop_head [] (suc n) k ks d e = absurd (nil_cons k ks e)
drop_head (x ∷ xs) zero k ks d e = (omega arith, ap (λ z. get_or z 0 d) e, ap (λ z. drop 1 z) e)
drop_head (x ∷ xs) (suc n) k ks d e =
    let r : (n < length xs) × (get_or xs n d ≡ k) × (drop (suc n) xs ≡ ks) = drop_head xs n k ks d e in (omega (arith, r.0), r.1, r.2)

pub drop_none : {K : Type 0} (xs : List K) (n : ℕ) → drop n xs ≡ [] → length xs ≤ n
drop_none [] n e = omega arith
drop_none (x ∷ xs) zero e = absurd (nil_cons x xs (sym e))
drop_none (x ∷ xs) (suc n) e = omega (arith, drop_none xs n e)

module _ {X K : Type 0} (Below : K → K → Type 0) (o : IsOrder K Below) (key : X → K) (count one : X → X → ℕ) (InRange : X → Type 0)
    (begins : (c x : X) → InRange c → 0 < count c x → AtMost Below (key c) (key x))
    (at : (f : X) → one f f ≡ 1) (once : (f x : X) → one f x ≤ 1) (only : (f x : X) → 0 < one f x → x ≡ f) (own : (f : X) → InRange f → 0 < count f f) where
  least_of_all : (k : K) (cs : List X) → AllInside InRange cs → NoneBelow Below key k cs → (x : X) → 0 < total count cs x → AtMost Below k (key x)
  unfolding total
  least_of_all k [] r t x h = absurd (omega arith)
  least_of_all k (c ∷ cs) r t x h = elim (cases_lt 0 (count c x)) [
    | inl p ↦ at_most_trans Below o k (key c) (key x) t.0 (begins c x r.0 p)
    | inr z ↦ least_of_all k cs r.1 t.1 x (omega arith)
  ]

  counted_once : (f : X) (cs : List X) → IsMember f cs → AllInside InRange cs → 0 < total count cs f
  unfolding total
  counted_once f [] m r = absurd m
  counted_once f (c ∷ cs) (inl e) r =
      let h : 0 < count c f = subst (λ z. 0 < count c z) (sym e) (own c r.0) in omega (arith, h)
  counted_once f (c ∷ cs) (inr m) r = omega (arith, counted_once f cs m r.1)

  one_within : (f : X) (cs : List X) → IsMember f cs → AllInside InRange cs → (x : X) → one f x ≤ total count cs x
  one_within f cs m r x = elim (cases_lt 0 (one f x)) [
    | inl p ↦
        let h : 0 < total count cs x = subst (λ z. 0 < total count cs z) (sym (only f x p)) (counted_once f cs m r) in omega (arith, once f x, h)
    | inr z ↦ omega arith
  ]

  -- The least entry is passed, and the others with what follows it stand in the queue.
  pub passes : (f : X) (queue after : List X) (ks : List K) → AllInside InRange queue → NoneBelow Below key (key f) queue → ((x : X) → total count queue x ≡ one f x + total count after x)
      → Remains X K Below key (total count queue) ks → (ks' : List K) × (ks ≡ key f ∷ ks') × Remains X K Below key (total count after) ks'
  passes f queue after ks r t split q =
      take_least Below o key (total count queue) (one f) (total count after) f split (omega (arith, at f)) (λ x h. only f x h) (λ x h. least_of_all (key f) queue r t x h) ks q

  -- The least entry is the head of what is left.
  pub shows : (f : X) (queue : List X) (ks : List K) → IsMember f queue → AllInside InRange queue → NoneBelow Below key (key f) queue
      → Remains X K Below key (total count queue) ks → (ks' : List K) × (ks ≡ key f ∷ ks')
  shows f queue ks m r t q =
      let s : (ks' : List K) × (ks ≡ key f ∷ ks') × Remains X K Below key (λ x. total count queue x - one f x) ks' =
      take_least Below o key (total count queue) (one f) (λ x. total count queue x - one f x) f (λ x. omega (arith, one_within f queue m r x)) (omega (arith, at f)) (λ x h. only f x h)
      (λ x h. least_of_all (key f) queue r t x h) ks q in
      (s.0, s.1)

  drop_end : (whole : List K) (n : ℕ) → Remains X K Below key (total count []) (drop n whole) → length whole ≤ n
  unfolding total
  drop_end whole n q = drop_none whole n (none_left Below key (total count []) (λ x. refl) (drop n whole) q)

  -- the last one known is passed
  pub ahead_passes : (whole : List K) (found : ℕ) (f : X) (queue after : List X) → IsMember f queue → NoneBelow Below key (key f) queue
      → ((x : X) → total count queue x ≡ one f x + total count after x) → IsAhead X K Below key count InRange whole found queue → Remains X K Below key (total count after) (drop found whole)
  ahead_passes whole found f [] after m t split a = absurd m
  ahead_passes whole found f (c ∷ cs) after m t split a =
      let s : (ks' : List K) × (drop (found - 1) whole ≡ key f ∷ ks') × Remains X K Below key (total count after) ks' = passes f (c ∷ cs) after (drop (found - 1) whole) a.inside t split a.remains in
      let r : drop (suc (found - 1)) whole ≡ s.0 = (drop_head whole (found - 1) (key f) s.0 (key f) s.1).2 in
      let n : suc (found - 1) ≡ found = omega (arith, a.some) in
      subst (λ z. Remains X K Below key (total count after) z) (sym r ∙ ap (λ z. drop z whole) n) s.2

  -- nothing is left: all is known
  pub ahead_done : (whole : List K) (found : ℕ) → 0 < found → found ≤ length whole → Remains X K Below key (total count []) (drop found whole) → IsAhead X K Below key count InRange whole found [] × (found ≡ length whole)
  ahead_done whole found p w q = (record { inside = tt; some = p; within = w; remains = q }, omega (arith, w, drop_end whole found q))

  -- the new least entry is the next member
  pub ahead_next : (whole : List K) (found : ℕ) (f : X) (queue : List X) (d : K) → IsMember f queue → AllInside InRange queue → NoneBelow Below key (key f) queue → Remains X K Below key (total count queue) (drop found whole)
      → (found < length whole) × (get_or whole found d ≡ key f) × IsAhead X K Below key count InRange whole (suc found) queue
  ahead_next whole found f [] d m r t q = absurd m
  ahead_next whole found f (c ∷ cs) d m r t q =
      let s : (ks' : List K) × (drop found whole ≡ key f ∷ ks') = shows f (c ∷ cs) (drop found whole) m r t q in
      let h : (found < length whole) × (get_or whole found d ≡ key f) × (drop (suc found) whole ≡ s.0) = drop_head whole found (key f) s.0 d s.1 in
      let n : found ≡ suc found - 1 = omega arith in
      (h.0, h.1, record { inside = r; some = omega arith; within = h.0; remains = subst (λ z. Remains X K Below key (total count (c ∷ cs)) (drop z whole)) n q })
