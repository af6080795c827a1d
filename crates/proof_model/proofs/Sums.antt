-- Sums of keys in parts, and their order.
use Rattle.std.proofs.Common.{◌≡◌, ℕ, zero, suc, ◌+◌, ◌<◌, ◌≤◌, cond, nat_eq, refl, sym, ap, ◌∙◌, inl, inr, arith}
use Rattle.std.proofs.lemmas.Bool.{cases_eq}
use Rattle.tdp_model.specs.KeyLaws.{IsKeys}
use Rattle.tdp_model.specs.TreeProblem.{sum_from}
pub use Rattle.tdp_model.proofs.Picks.{pick_eq, pick_ne}
use Rattle.tdp_model.proofs.Sums.{none_add}

module _ {K : Type 0} (Below : K → K → Type 0) (add : K → K → K) (none : K) (keys : IsKeys K Below add none) where
  pub sum_none : (f : ℕ → K) (n q : ℕ) → ((i : ℕ) → q ≤ i → i < q + n → f i ≡ none) → sum_from add none f n q ≡ none
  unfolding sum_from
  sum_none f zero q e = refl
  sum_none f (suc n) q e =
      ap (λ z. add z (sum_from add none f n (suc q))) (e q (omega arith) (omega arith))
      ∙ none_add Below add none keys (sum_from add none f n (suc q))
      ∙ sum_none f n (suc q) (λ i l h. e i (omega arith) (omega arith))

  -- a sum in two parts
  pub sum_parts : (f : ℕ → K) (a b q r : ℕ) → r ≡ q + a
      → sum_from add none f (a + b) q ≡ add (sum_from add none f a q) (sum_from add none f b r)
  unfolding sum_from
  sum_parts f zero b q r e =
      let s : q ≡ r = omega arith in
      let z : zero + b ≡ b = omega arith in
      ap (λ n. sum_from add none f n q) z ∙ ap (λ k. sum_from add none f b k) s
      ∙ sym (none_add Below add none keys (sum_from add none f b r))
  sum_parts f (suc a) b q r e =
      let z : suc a + b ≡ suc (a + b) = omega arith in
      ap (λ n. sum_from add none f n q) z
      ∙ ap (λ x. add (f q) x) (sum_parts f a b (suc q) r (omega arith))
      ∙ sym (keys.add_assoc (f q) (sum_from add none f a (suc q)) (sum_from add none f b r))

  -- a sum with one term
  pub sum_one : (x : K) (n q p : ℕ) → q ≤ p → p < q + n → sum_from add none (λ i. cond (nat_eq i p) x none) n q ≡ x
  unfolding sum_from
  sum_one x zero q p l h = absurd (omega arith)
  sum_one x (suc n) q p l h = elim (cases_eq q p) [
    | inl e ↦
        ap (λ z. add z (sum_from add none (λ i. cond (nat_eq i p) x none) n (suc q))) (pick_eq q p x none e)
        ∙ ap (λ z. add x z) (sum_none (λ i. cond (nat_eq i p) x none) n (suc q)
        (λ i a b. pick_ne i p x none (λ w. omega arith)))
        ∙ keys.add_none x
    | inr e ↦
        ap (λ z. add z (sum_from add none (λ i. cond (nat_eq i p) x none) n (suc q))) (pick_ne q p x none e)
        ∙ none_add Below add none keys _
        ∙ sum_one x n (suc q) p (omega arith) (omega arith)
  ]
