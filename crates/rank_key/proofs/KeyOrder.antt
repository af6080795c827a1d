-- What engines use of the order and the addition of keys.
use Rattle.std.proofs.Common.{◌≡◌, ℕ, Bool, true, false, refl, sym, subst, ◌∙◌, ◌⊎◌, inl, inr}
use Rattle.tdp_model.specs.KeyTuple.{KeyOf, key_below, key_add, key_none}
use Rattle.tdp_model.specs.KeyNumbers.{key_less}
use Rattle.tdp_model.proofs.KeyTuples.{tuple_keys}
use Rattle.tdp_model.proofs.KeyNumbers.{key_less_below, below_key_less, not_less_at_most, at_most_not_less, key_cancel}

module _ (d e : ℕ) where
  pub below_irreflexive : (a : KeyOf d e) → key_below d e a a → ⊥
  below_irreflexive = (tuple_keys d e).order.irreflexive

  pub below_transitive : (a b c : KeyOf d e) → key_below d e a b → key_below d e b c → key_below d e a c
  below_transitive = (tuple_keys d e).order.transitive

  pub below_cases : (a b : KeyOf d e) → key_below d e a b ⊎ (a ≡ b) ⊎ key_below d e b a
  below_cases = (tuple_keys d e).order.compare

  -- no key is before itself
  pub less_itself : (a : KeyOf d e) → key_less d e a a ≡ false
  less_itself a = at_most_not_less d e a a (inr refl)

  -- of two keys at most one is before the other
  pub less_back : (a b : KeyOf d e) → key_less d e a b ≡ true → key_less d e b a ≡ false
  less_back a b h = at_most_not_less d e b a (inl (key_less_below d e a b h))

  pub less_transitive : (a b c : KeyOf d e) → key_less d e a b ≡ true → key_less d e b c ≡ true → key_less d e a c ≡ true
  less_transitive a b c h k = below_key_less d e a c (below_transitive a b c (key_less_below d e a b h) (key_less_below d e b c k))

  -- keys of which neither is before the other are the same
  pub same_key : (a b : KeyOf d e) → key_less d e a b ≡ false → key_less d e b a ≡ false → a ≡ b
  same_key a b h k = elim (not_less_at_most d e a b h) [
    | inr same ↦ sym same
    | inl back ↦ elim (not_less_at_most d e b a k) [
      | inr same ↦ same
      | inl there ↦ absurd (below_irreflexive a (below_transitive a b a there back))
    ]
  ]

  pub add_comm : (a b : KeyOf d e) → key_add d e a b ≡ key_add d e b a
  add_comm = (tuple_keys d e).add_comm

  pub add_assoc : (a b c : KeyOf d e) → key_add d e (key_add d e a b) c ≡ key_add d e a (key_add d e b c)
  add_assoc = (tuple_keys d e).add_assoc

  pub add_none : (a : KeyOf d e) → key_add d e a (key_none d e) ≡ a
  add_none = (tuple_keys d e).add_none

  pub none_add : (a : KeyOf d e) → key_add d e (key_none d e) a ≡ a
  none_add a = add_comm (key_none d e) a ∙ add_none a

  pub below_add_right : (a b c : KeyOf d e) → key_below d e a b → key_below d e (key_add d e a c) (key_add d e b c)
  below_add_right = (tuple_keys d e).add_below

  pub below_cancel_right : (a b c : KeyOf d e) → key_below d e (key_add d e a c) (key_add d e b c) → key_below d e a b
  below_cancel_right a b c h = elim (below_cases a b) [
    | inl p ↦ p
    | inr q ↦ elim q [
      | inl same ↦ absurd (below_irreflexive (key_add d e b c) (subst (λ z. key_below d e (key_add d e z c) (key_add d e b c)) same h))
      | inr back ↦ absurd (below_irreflexive (key_add d e a c) (below_transitive (key_add d e a c) (key_add d e b c) (key_add d e a c) h (below_add_right b a c back)))
    ]
  ]

  same_answers : (x y : Bool) → (x ≡ true → y ≡ true) → (y ≡ true → x ≡ true) → x ≡ y
  same_answers true y f g = sym (f refl)
  same_answers false true f g = g refl
  same_answers false false f g = refl

  -- adding the same to both changes no answer
  pub key_less_add_right : (a b c : KeyOf d e) → key_less d e (key_add d e a c) (key_add d e b c) ≡ key_less d e a b
  key_less_add_right a b c = same_answers _ _
      (λ h. below_key_less d e a b (below_cancel_right a b c (key_less_below d e (key_add d e a c) (key_add d e b c) h)))
      (λ h. below_key_less d e (key_add d e a c) (key_add d e b c) (below_add_right a b c (key_less_below d e a b h)))

  -- `rest` is all that a total is beside its part `old`
  pub rest_is : (rest other old : KeyOf d e) → key_add d e rest old ≡ key_add d e other old → rest ≡ other
  rest_is rest other old h = key_cancel d e rest other old h
