-- The least that is known for each group, one beginning after another.
use Rattle.std.proofs.Common.{◌≡◌, ℕ, ◌+◌, ◌<◌, Option, None, Some, List, length, get_or, sym, ap, subst}
use Rattle.std.proofs.Common.{◌∙◌, inl, inr, arith}
use Rattle.std.proofs.Math.ListN.{set}
use Rattle.std.proofs.lemmas.Bool.{cases_eq, cases_lt}
use Rattle.std.proofs.lemmas.List.{get_or-set_other, get_or-set_same}
use Rattle.tdp_model.specs.KeyTuple.{KeyOf, key_below}
use Rattle.tdp_model.specs.Remains.{AtMost}
use Rattle.tdp_model.proofs.Keys.{at_most_trans}
use Rattle.tdp_model.proofs.KeyTuples.{tuple_keys}
use Rattle.proof_check.specs.declared.open_places.OpenPlace.{OpenPlace}
use Rattle.proof_check.specs.Levels.{AreLeast, IsLesser}

-- nothing is known before the first beginning
pub none_least : {R : Type 0} (d : ℕ) (key : R → KeyOf d 16) (branches : List (Option (OpenPlace R))) (least : List (Option R))
    → ((g : ℕ) → get_or least g None ≡ None) → AreLeast d key 0 branches least
none_least d key branches least none = record {
  below = λ n b l e. absurd (omega (arith, l));
  one = λ g k e. absurd (let clash : None ≡ Some k = sym (none g) ∙ e in
      let no : None ≡ Some k → ⊥ = λ w. cc in no clash);
}

module _ {R : Type 0} (d : ℕ) (key : R → KeyOf d 16) (m : ℕ) (branches : List (Option (OpenPlace R)))
    (least : List (Option R)) (are : AreLeast d key m branches least) where
  -- a beginning that may not be left
  pub least_kept : get_or branches m None ≡ None → AreLeast d key (m + 1) branches least
  least_kept none = record {
    below = λ n b l e. elim (cases_lt n m) [
      | inl less ↦ are.below n b less e
      | inr at ↦
          let is : n ≡ m = omega (arith, l, at) in
          absurd (let no : None ≡ Some b → ⊥ = λ w. cc in no (sym none ∙ ap (λ k. get_or branches k None) (sym is) ∙ e))
    ];
    one = λ g k e. let o = are.one g k e in
        (o.0, (o.1.0, let l = o.1.1 in omega (arith, l), o.1.2, o.1.3, o.1.4));
  }

  module _ (b : OpenPlace R) (here : get_or branches m None ≡ Some b) (within : b.group < length least) (now : R)
      (lesser : IsLesser d key (get_or least b.group None) b.base now) where
    after : List (Option R)
    after = set least b.group (Some now)

    at_group : get_or after b.group None ≡ Some now
    unfolding after
    at_group = get_or-set_same least b.group (Some now) None within

    elsewhere : (g : ℕ) → (g ≡ b.group → ⊥) → get_or after g None ≡ get_or least g None
    unfolding after
    elsewhere g n = get_or-set_other least b.group g (Some now) None n

    below_now : (n : ℕ) (x : OpenPlace R) → n < m + 1 → get_or branches n None ≡ Some x
        → (k : R) × (get_or after x.group None ≡ Some k) × AtMost (key_below d 16) (key k) (key x.base)
    below_now n x l e = elim (cases_lt n m) [
      | inl less ↦
          let old = are.below n x less e in
          elim (cases_eq x.group b.group) [
            | inl same ↦ (
              now,
              ap (λ g. get_or after g None) same ∙ at_group,
              at_most_trans (key_below d 16) (tuple_keys d 16).order (key now) (key old.0) (key x.base)
                  (lesser.falls old.0 (ap (λ g. get_or least g None) (sym same) ∙ old.1)) old.2,
            )
            | inr other ↦ (old.0, elsewhere x.group other ∙ old.1, old.2)
          ]
      | inr at ↦
          let is : n ≡ m = omega (arith, l, at) in
          let same : b ≡ x =
          let both : Some b ≡ Some x = sym here ∙ ap (λ k. get_or branches k None) (sym is) ∙ e in cc in
          subst (λ (y : OpenPlace R). (k : R) × (get_or after y.group None ≡ Some k)
          × AtMost (key_below d 16) (key k) (key y.base)) same (now, at_group, lesser.below)
    ]

    one_now : (g : ℕ) (k : R) → get_or after g None ≡ Some k
        → (n : ℕ) × ((x : OpenPlace R) × (n < m + 1) × (get_or branches n None ≡ Some x) × (x.group ≡ g) × (x.base ≡ k))
    one_now g k e = elim (cases_eq g b.group) [
      | inl same ↦
          let is : now ≡ k =
          let both : Some now ≡ Some k = sym at_group ∙ ap (λ z. get_or after z None) (sym same) ∙ e in cc in
          elim lesser.one [
            | inl new ↦ (m, (b, omega arith, here, sym same, sym new ∙ is))
            | inr old ↦
                let o = are.one g k (ap (λ z. get_or least z None) same ∙ old ∙ ap Some is) in
                (o.0, (o.1.0, let l = o.1.1 in omega (arith, l), o.1.2, o.1.3, o.1.4))
          ]
      | inr other ↦
          let o = are.one g k (sym (elsewhere g other) ∙ e) in
          (o.0, (o.1.0, let l = o.1.1 in omega (arith, l), o.1.2, o.1.3, o.1.4))
    ]

    pub least_lowered : AreLeast d key (m + 1) branches (set least b.group (Some now))
    unfolding after
    least_lowered = record { below = below_now; one = one_now }
