-- The removal of a least solution: the one step of each queue of regions.
use Rattle.std.proofs.lemmas.Bool.{cases_lt}
use Rattle.std.proofs.Common.{◌≡◌, ℕ, ◌+◌, ◌<◌, ◌≤◌, List, [], ◌∷◌, refl, sym, ap, ◌∙◌, subst, inl, inr, arith}
use Rattle.rankings.specs.Order.{IsOrder, IsMember}
use Rattle.tdp_model.specs.Remains.{AtMost, Remains}
use Rattle.rankings.proofs.Members.{below_member}
use Rattle.tdp_model.proofs.Keys.{not_above}

module _ {X K : Type 0} (Below : K → K → Type 0) (o : IsOrder K Below) (key : X → K) (count one rest : X → ℕ) (b : X)
    (split : (x : X) → count x ≡ one x + rest x) (at : 0 < one b) (only : (x : X) → 0 < one x → x ≡ b)
    (least : (x : X) → 0 < count x → AtMost Below (key b) (key x)) where
  held_best : 0 < count b
  held_best = omega (arith, split b)

  head_is : (k : K) (ks : List K) → Remains X K Below key count (k ∷ ks) → IsMember (key b) (k ∷ ks) → key b ≡ k
  head_is k ks r (inl e) = e
  head_is k ks r (inr m) =
      let s : (x : X) × (0 < count x) × (key x ≡ k) = r.sound k (inl refl) in
      absurd (not_above Below o k (key b) (below_member Below k (key b) ks r.ascending.0 m) (subst (λ z. AtMost Below (key b) z) s.2 (least s.0 s.1)))

  spent : (x : X) → count b ≤ 1 → x ≡ b → 0 < rest x → ⊥
  spent x u e h = let h' : 0 < rest b = subst (λ z. 0 < rest z) e h in omega (arith, split b)

  complete_rest : (k : K) (ks : List K) → Remains X K Below key count (k ∷ ks) → key b ≡ k → (x : X) → 0 < rest x → IsMember (key x) (k ∷ ks) → IsMember (key x) ks
  complete_rest k ks r e x h (inl f) = absurd (spent x (r.once b) (r.apart x b (omega (arith, split x)) held_best (f ∙ sym e)) h)
  complete_rest k ks r e x h (inr m) = m

  sound_rest : (k l : K) (ks : List K) → Remains X K Below key count (k ∷ ks) → key b ≡ k → IsMember l ks → (x : X) → 0 < count x → key x ≡ l → 0 < rest x
  sound_rest k l ks r e m x h f = elim (cases_lt 0 (rest x)) [
    | inl p ↦ p
    | inr z ↦
        let same : x ≡ b = only x (omega (arith, split x)) in
        absurd (o.irreflexive k (subst (λ w. Below k w) (sym f ∙ ap key same ∙ e) (below_member Below k l ks r.ascending.0 m)))
  ]

  pub take_least : (ks : List K) → Remains X K Below key count ks → (ks' : List K) × (ks ≡ key b ∷ ks') × Remains X K Below key rest ks'
  take_least [] r = absurd (r.complete b held_best)
  take_least (k ∷ ks) r =
      let e : key b ≡ k = head_is k ks r (r.complete b held_best) in (
        ks,
        ap (λ z. z ∷ ks) (sym e),
        record {
          once = λ x. omega (arith, split x, r.once x);
          apart = λ x y h i. r.apart x y (omega (arith, split x)) (omega (arith, split y));
          ascending = r.ascending.1;
          complete = λ x h. complete_rest k ks r e x h (r.complete x (omega (arith, split x)));
          sound = λ l m. let s : (x : X) × (0 < count x) × (key x ≡ l) = r.sound l (inr m) in (s.0, sound_rest k l ks r e m s.0 s.1 s.2, s.2);
        },
      )

-- an empty queue has an empty ranking
pub none_left : {X K : Type 0} (Below : K → K → Type 0) (key : X → K) (count : X → ℕ) → ((x : X) → count x ≡ 0) → (ks : List K) → Remains X K Below key count ks → ks ≡ []
none_left Below key count z [] r = refl
none_left {X} Below key count z (k ∷ ks) r =
    let s : (x : X) × (0 < count x) × (key x ≡ k) = r.sound k (inl refl) in absurd (omega (arith, z s.0))

-- counts that agree hold the same
pub Remains-same : {X K : Type 0} (Below : K → K → Type 0) (key : X → K) (count other : X → ℕ) (ks : List K) → ((x : X) → count x ≡ other x) → Remains X K Below key count ks → Remains X K Below key other ks
Remains-same {X} Below key count other ks e r = record {
  once = λ x. omega (arith, e x, r.once x);
  apart = λ x y h i. r.apart x y (omega (arith, e x)) (omega (arith, e y));
  ascending = r.ascending;
  complete = λ x h. r.complete x (omega (arith, e x));
  sound = λ l m. let s : (x : X) × (0 < count x) × (key x ≡ l) = r.sound l m in (s.0, omega (arith, e s.0), s.2);
}
