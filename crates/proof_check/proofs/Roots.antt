-- All nodes are below the root, and a first option decides a choice.
use Rattle.std.proofs.Common.{◌≡◌, ℕ, zero, suc, ◌<◌, ◌≤◌, Option, None, Some, MatchOption, ◌∙◌, inl, inr, refl, arith}
use Rattle.std.proofs.lemmas.Bool.{cases_eq}
use Rattle.tdp_model.specs.Below.{is_below}
use Rattle.tdp_model.proofs.Descent.{below_itself, below_parent}

pub below_root : (m : ℕ) (parent : ℕ → ℕ) → ((q : ℕ) → 0 < q → q < m → parent q < q) → (f q : ℕ) → q ≤ f → q < m
    → is_below parent 0 q ≡ 1
below_root m parent first zero q e l = below_itself m parent first 0 q (omega arith)
below_root m parent first (suc f) q e l = elim (cases_eq q 0) [
  | inl z ↦ below_itself m parent first 0 q z
  | inr n ↦
      let p : 0 < q = omega (arith, n) in
      let d : parent q < q = first q p l in
      below_parent m parent first 0 q p l n
      ∙ below_root m parent first f (parent q) (omega (arith, d, e)) (omega (arith, d, l))
]

pub without : {A : Type 0} (o : Option A) (P : Type 0) (Q : A → Type 0) → MatchOption o P Q
    → ((x : A) → o ≡ Some x → ⊥) → P
without None P Q h other = h
without (Some x) P Q h other = absurd (other x refl)
