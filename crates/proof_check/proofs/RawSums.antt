-- Sums of sums of the ranks of a raw tree's rows, of which each node has at most one term, fit a rank.
use Rattle.std.proofs.Common.{◌≡◌, ◌⊎◌, ℕ, ◌+◌, ◌<◌, ◌≤◌, length, sym, subst, inl, inr, arith}
use Rattle.tdp_model.specs.KeyTuple.{KeyOf, key_below, key_add, key_none}
use Rattle.tdp_model.specs.TreeProblem.{sum_from}
use Rattle.tdp_model.proofs.KeyTuples.{tuple_keys}
use Rattle.rank_key.specs.Keys.{KeyFits}
use Rattle.tdp_core.specs.RawView.{RawView, IsRawFormed}
use Rattle.proof_check.proofs.RankSums.{IsRawPart, parts_fit}
use Rattle.proof_check.proofs.DoubleSums.{sum_swap, sum_choice}

module _ {R : Type 0} (d : ℕ) (key : R → KeyOf d 16) (raw : RawView R) (formed : IsRawFormed d key raw) where
  abbrev m : ℕ
  m = length raw.shapes

  -- a sum of sums, of which each node has at most one term
  pub double_sums_fit : (Is : ℕ → ℕ → Type 0) (f : ℕ → ℕ → KeyOf d 16) (n s : ℕ)
      → ((q i j : ℕ) → Is q i → Is q j → i ≡ j)
      → ((i q : ℕ) → s ≤ i → i < s + n → q < m → (f i q ≡ key_none d 16) ⊎ (Is q i × IsRawPart d key raw q (f i q)))
      → KeyFits d key (sum_from (key_add d 16) (key_none d 16) (λ i. sum_from (key_add d 16) (key_none d 16) (f i) m 0) n s)
  double_sums_fit Is f n s one each =
      let keys = tuple_keys d 16 in
      subst (KeyFits d key) (sym (sum_swap (key_below d 16) (key_add d 16) (key_none d 16) keys f n s m 0))
      (parts_fit d key raw formed (λ q. sum_from (key_add d 16) (key_none d 16) (λ i. f i q) n s) (λ q l.
      elim (sum_choice (key_below d 16) (key_add d 16) (key_none d 16) keys (IsRawPart d key raw q) (Is q)
      (λ i. f i q) n s (one q)
      (λ i a b. each i q a b l)) [
        | inl e ↦ inl e
        | inr p ↦ p
      ]) m (omega arith))
