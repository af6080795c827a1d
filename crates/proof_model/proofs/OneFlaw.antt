-- At most one flaw is told, and none of a valid certificate.
use Rattle.std.proofs.Common.{◌≡◌, ℕ, zero, suc, refl, sym, ap, ◌∙◌, inl, inr, Option}
use Rattle.std.proofs.lemmas.Bool.{cases_order}
use Rattle.proof_model.specs.Certificate.{Certificate}
use Rattle.proof_model.specs.Problem.{Problem}
use Rattle.proof_model.specs.Valid.{Flaw, no_solution, bound_twice, weak, no_answer, not_in_order, wrong_count, missed}
use Rattle.proof_model.specs.Valid.{stage, place, IsFirstFlaw}

-- the flaw of a stage and a place
flaw_at : ℕ → ℕ → Flaw
flaw_at zero n = no_solution n
flaw_at (suc zero) n = bound_twice n
flaw_at (suc (suc zero)) n = weak n
flaw_at (suc (suc (suc zero))) n = no_answer n
flaw_at (suc (suc (suc (suc zero)))) n = not_in_order n
flaw_at (suc (suc (suc (suc (suc zero))))) n = wrong_count
flaw_at (suc (suc (suc (suc (suc (suc s)))))) n = missed

told : (f : Flaw) → flaw_at (stage f) (place f) ≡ f
unfolding flaw_at
told (no_solution i) = refl
told (bound_twice i) = refl
told (weak v) = refl
told (no_answer i) = refl
told (not_in_order i) = refl
told wrong_count = refl
told missed = refl

module _ {K : Type 0} (t : Problem K) (c : Certificate) (limit : Option ℕ) where
  pub one_flaw : (f g : Flaw) → IsFirstFlaw t c limit f → IsFirstFlaw t c limit g → f ≡ g
  one_flaw f g a b = elim (cases_order (stage f) (stage g)) [
    | inr (inl less) ↦ absurd (b.first f (inl less) a.holds)
    | inr (inr more) ↦ absurd (a.first g (inl more) b.holds)
    | inl s ↦ elim (cases_order (place f) (place g)) [
      | inr (inl less) ↦ absurd (b.first f (inr (s, less)) a.holds)
      | inr (inr more) ↦ absurd (a.first g (inr (sym s, more)) b.holds)
      | inl p ↦ sym (told f) ∙ ap (λ n. flaw_at n (place f)) s ∙ ap (flaw_at (stage g)) p ∙ told g
    ]
  ]
