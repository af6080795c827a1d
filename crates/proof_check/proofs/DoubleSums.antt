-- Sums of sums of keys, of which each place has at most one term.
use Rattle.std.proofs.Common.{◌≡◌, ◌⊎◌, ℕ, zero, suc, ◌+◌, ◌<◌, ◌≤◌, refl, sym, ap, subst, ◌∙◌, inl, inr, arith}
use Rattle.tdp_model.specs.KeyLaws.{IsKeys}
use Rattle.tdp_model.specs.TreeProblem.{sum_from}
use Rattle.tdp_model.proofs.Sums.{none_add, sum_add}
use Rattle.proof_model.proofs.Sums.{sum_none}

module _ {K : Type 0} (Below : K → K → Type 0) (add : K → K → K) (none : K) (keys : IsKeys K Below add none) where
  -- row by row or column by column
  pub sum_swap : (f : ℕ → ℕ → K) (n q k p : ℕ)
      → sum_from add none (λ i. sum_from add none (f i) k p) n q
      ≡ sum_from add none (λ j. sum_from add none (λ i. f i j) n q) k p
  unfolding sum_from
  sum_swap f zero q k p = sym (sum_none Below add none keys (λ j. none) k p (λ i l h. refl))
  sum_swap f (suc n) q k p =
      ap (λ z. add (sum_from add none (f q) k p) z) (sum_swap f n (suc q) k p)
      ∙ sym (sum_add Below add none keys (f q) (λ j. sum_from add none (λ i. f i j) n (suc q)) k p)

  -- at most one term is not none, so the sum is none or that term
  pub sum_choice : (Good : K → Type 0) (Is : ℕ → Type 0) (f : ℕ → K) (n q : ℕ) → ((i j : ℕ) → Is i → Is j → i ≡ j)
      → ((i : ℕ) → q ≤ i → i < q + n → (f i ≡ none) ⊎ (Is i × Good (f i)))
      → (sum_from add none f n q ≡ none) ⊎ Good (sum_from add none f n q)
  unfolding sum_from
  sum_choice Good Is f zero q one each = inl refl
  sum_choice Good Is f (suc n) q one each = elim (each q (omega arith) (omega arith)) [
    | inl e ↦
        let same : sum_from add none f (suc n) q ≡ sum_from add none f n (suc q) =
        ap (λ z. add z (sum_from add none f n (suc q))) e
        ∙ none_add Below add none keys (sum_from add none f n (suc q)) in
        subst (λ z. (z ≡ none) ⊎ Good z) (sym same)
        (sum_choice Good Is f n (suc q) one (λ i l h. each i (omega arith) (omega arith)))
    | inr here ↦
        let rest : sum_from add none f n (suc q) ≡ none =
        sum_none Below add none keys f n (suc q) (λ i l h. elim (each i (omega arith) (omega arith)) [
          | inl e ↦ e
          | inr other ↦ let e : q ≡ i = one q i here.0 other.0 in absurd (omega arith)
        ]) in
        inr (subst Good (sym (ap (λ z. add (f q) z) rest ∙ keys.add_none (f q))) here.1)
  ]
