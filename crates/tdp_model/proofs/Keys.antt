-- Sums of keys, and places of an ascending list.
use Rattle.std.proofs.lemmas.Bool.{cases_lt}
use Rattle.std.proofs.Common.{◌≡◌, ℕ, zero, suc, ◌<◌, ◌≤◌, List, [], ◌∷◌, length, get_or, sym, ap, subst, inl, inr, arith}
use Rattle.rankings.specs.Order.{IsOrder, IsAscending}
use Rattle.tdp_model.specs.KeyLaws.{IsKeys}
use Rattle.tdp_model.specs.Remains.{AtMost}
use Rattle.rankings.proofs.Members.{below_member, get_member}

pub not_above : {K : Type 0} (Below : K → K → Type 0) → IsOrder K Below → (x y : K) → Below x y → AtMost Below y x → ⊥
not_above Below o x y p (inl q) = o.irreflexive x (o.transitive x y x p q)
not_above Below o x y p (inr e) = o.irreflexive x (subst (λ z. Below x z) e p)

pub at_most_trans : {K : Type 0} (Below : K → K → Type 0) (o : IsOrder K Below) (a b c : K) → AtMost Below a b → AtMost Below b c → AtMost Below a c
at_most_trans Below o a b c (inl p) (inl q) = inl (o.transitive a b c p q)
at_most_trans Below o a b c (inl p) (inr e) = inl (subst (λ z. Below a z) e p)
at_most_trans Below o a b c (inr e) q = subst (λ z. AtMost Below z c) (sym e) q

module _ {K : Type 0} (Below : K → K → Type 0) (add : K → K → K) (none : K) (keys : IsKeys K Below add none) where
  add_at_most_left : (a b c : K) → AtMost Below a b → AtMost Below (add a c) (add b c)
  add_at_most_left a b c (inl p) = inl (keys.add_below a b c p)
  add_at_most_left a b c (inr e) = inr (ap (λ z. add z c) e)

  add_at_most_right : (a b c : K) → AtMost Below a b → AtMost Below (add c a) (add c b)
  add_at_most_right a b c h =
      subst (λ z. AtMost Below z (add c b)) (keys.add_comm a c)
      (subst (λ z. AtMost Below (add a c) z) (keys.add_comm b c) (add_at_most_left a b c h))

  pub add_at_most : (a b c d : K) → AtMost Below a b → AtMost Below c d → AtMost Below (add a c) (add b d)
  add_at_most a b c d p q = at_most_trans Below keys.order (add a c) (add b c) (add b d) (add_at_most_left a b c p) (add_at_most_right c d b q)

  -- what is added to both sides may be left out
  pub cancel : (a b c : K) → add a c ≡ add b c → a ≡ b
  cancel a b c e = elim (keys.order.compare a b) [
    | inl p ↦ absurd (keys.order.irreflexive (add a c) (subst (λ z. Below (add a c) z) (sym e) (keys.add_below a b c p)))
    | inr q ↦ elim q [
      | inl f ↦ f
      | inr p ↦ absurd (keys.order.irreflexive (add b c) (subst (λ z. Below (add b c) z) e (keys.add_below b a c p)))
    ]
  ]

  pub cancel_at_most : (a b c : K) → AtMost Below (add a c) (add b c) → AtMost Below a b
  cancel_at_most a b c h = elim (keys.order.compare a b) [
    | inl p ↦ inl p
    | inr q ↦ elim q [
      | inl f ↦ inr f
      | inr p ↦ absurd (not_above Below keys.order (add b c) (add a c) (keys.add_below b a c p) h)
    ]
  ]

pub ascending_below : {K : Type 0} (Below : K → K → Type 0) (xs : List K) (i j : ℕ) (d : K) → IsAscending Below xs → i < j → j < length xs → Below (get_or xs i d) (get_or xs j d)
ascending_below Below [] i j d a l m = absurd (omega arith)
ascending_below Below (x ∷ xs) i zero d a l m = absurd (omega arith)
ascending_below Below (x ∷ xs) zero (suc j) d a l m = below_member Below x (get_or xs j d) xs a.0 (get_member xs j d (omega arith))
ascending_below Below (x ∷ xs) (suc i) (suc j) d a l m = ascending_below Below xs i j d a.1 (omega arith) (omega arith)

pub ascending_at_most : {K : Type 0} (Below : K → K → Type 0) (xs : List K) (i j : ℕ) (d : K) → IsAscending Below xs → i ≤ j → j < length xs → AtMost Below (get_or xs i d) (get_or xs j d)
ascending_at_most Below xs i j d a l m = elim (cases_lt i j) [
  | inl p ↦ inl (ascending_below Below xs i j d a p m)
  | inr g ↦ let e : i ≡ j = omega arith in inr (ap (λ k. get_or xs k d) e)
]
