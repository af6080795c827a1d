-- Flaws that are the first ones of a certificate.
use Rattle.std.proofs.Common.{◌≡◌, ℕ, suc, ◌+◌, ◌-◌, ◌<◌, Option, length, subst, inl, inr, arith, ◌⊎◌}
use Rattle.proof_model.specs.Certificate.{Certificate}
use Rattle.proof_model.specs.Problem.{Problem, IsSolutionAt}
use Rattle.proof_model.specs.Valid.{Flaw, no_solution, bound_twice, weak, no_answer, not_in_order, wrong_count, missed}
use Rattle.proof_model.specs.Valid.{answer_at, answer_key, bound_at, bound_row, Holds, IsBoundOf, IsCount}
use Rattle.proof_model.specs.Valid.{IsEarlier, IsFirstFlaw}
use Rattle.proof_check.specs.Coverage.{AllCovered, IsFirstWeak}
use Rattle.proof_check.specs.Solutions.{AreOrdered, IsFirstBad, IsFirstBehind}

-- a flaw of a later stage is no earlier one
pub later : {Before : Type 0} (a b : ℕ) → b < a → (a < b) ⊎ ((a ≡ b) × Before) → ⊥
later a b h (inl e) = omega (arith, h, e)
later a b h (inr e) = omega (arith, h, e.0)

module _ {K : Type 0} (t : Problem K) (c : Certificate) (limit : Option ℕ)
    (solutions : (i : ℕ) → i < length c.bounds
    → (v : ℕ) × ((bound_at t c i).node ≡ suc v) × IsSolutionAt t v (bound_at t c i).rows)
    (apart : (v i j : ℕ) → i < j → IsBoundOf t c v i → IsBoundOf t c v j
    → t.IsGrouped v (bound_row t c v i) (bound_row t c v j) → ⊥) where
  bound_none : (i : ℕ) → Holds t c limit (no_solution i) → ⊥
  bound_none i h = let s = solutions i h.0 in h.1 s.0 s.1 s.2

  twice_none : (j : ℕ) → Holds t c limit (bound_twice j) → ⊥
  twice_none j h = apart h.0 h.1 j h.2 h.3 h.4 h.5

  pub first_weak_lem : (v : ℕ) → IsFirstWeak t c v → IsFirstFlaw t c limit (weak v)
  first_weak_lem v h = record { holds = (h.1.0, h.0, h.1.1, h.1.2); first = before }
    where
      before : (g : Flaw) → IsEarlier g (weak v) → Holds t c limit g → ⊥
      before (no_solution i) e holds = bound_none i holds
      before (bound_twice i) e holds = twice_none i holds
      before (weak u) (inl e) holds = absurd (omega arith)
      before (weak u) (inr e) holds = holds.3 (h.2 u e.1 holds.0 holds.2)
      before (no_answer i) e holds = later 3 2 (omega arith) e
      before (not_in_order i) e holds = later 4 2 (omega arith) e
      before wrong_count e holds = later 5 2 (omega arith) e
      before missed e holds = later 6 2 (omega arith) e

  module _ (covered : (v : ℕ) → v < t.nodes → AllCovered t c v) where
    weak_none : (v : ℕ) → Holds t c limit (weak v) → ⊥
    weak_none v h = h.3 (covered v h.1 h.0 h.2)

    pub first_bad : (i : ℕ) → IsFirstBad t c i → IsFirstFlaw t c limit (no_answer i)
    first_bad i h = record { holds = (h.0, h.1); first = before }
      where
        before : (g : Flaw) → IsEarlier g (no_answer i) → Holds t c limit g → ⊥
        before (no_solution j) e holds = bound_none j holds
        before (bound_twice j) e holds = twice_none j holds
        before (weak u) e holds = weak_none u holds
        before (no_answer j) (inl e) holds = absurd (omega arith)
        before (no_answer j) (inr e) holds = holds.1 (h.2 j e.1)
        before (not_in_order j) e holds = later 4 3 (omega arith) e
        before wrong_count e holds = later 5 3 (omega arith) e
        before missed e holds = later 6 3 (omega arith) e

    module _ (answers : (i : ℕ) → i < length c.answers → IsSolutionAt t 0 (answer_at t c i).rows) where
      bad_none : (i : ℕ) → Holds t c limit (no_answer i) → ⊥
      bad_none i h = h.1 (answers i h.0)

      -- no answer before the n-th is behind the one before it
      behind_none : (n : ℕ) → AreOrdered t c n → (j : ℕ) → j < n → Holds t c limit (not_in_order j) → ⊥
      behind_none n ordered j l h =
          let next : j - 1 + 1 ≡ j = omega (arith, h.0) in
          h.2 (subst (λ m. t.Below (answer_key t c (j - 1)) (answer_key t c m)) next
          (ordered (j - 1) (omega (arith, next, l))))

      pub first_behind : (i : ℕ) → IsFirstBehind t c i → IsFirstFlaw t c limit (not_in_order i)
      first_behind i h = record { holds = (h.0, h.1, h.2); first = before }
        where
          before : (g : Flaw) → IsEarlier g (not_in_order i) → Holds t c limit g → ⊥
          before (no_solution j) e holds = bound_none j holds
          before (bound_twice j) e holds = twice_none j holds
          before (weak u) e holds = weak_none u holds
          before (no_answer j) e holds = bad_none j holds
          before (not_in_order j) (inl e) holds = absurd (omega arith)
          before (not_in_order j) (inr e) holds = behind_none i h.3 j e.1 holds
          before wrong_count e holds = later 5 4 (omega arith) e
          before missed e holds = later 6 4 (omega arith) e

      pub first_count : AreOrdered t c (length c.answers) → (IsCount t c limit c.ended (length c.answers) → ⊥)
          → IsFirstFlaw t c limit wrong_count
      first_count ordered h = record { holds = h; first = before }
        where
          before : (g : Flaw) → IsEarlier g wrong_count → Holds t c limit g → ⊥
          before (no_solution j) e holds = bound_none j holds
          before (bound_twice j) e holds = twice_none j holds
          before (weak u) e holds = weak_none u holds
          before (no_answer j) e holds = bad_none j holds
          before (not_in_order j) e holds = behind_none (length c.answers) ordered j holds.1 holds
          before wrong_count (inl e) holds = absurd (omega arith)
          before wrong_count (inr e) holds = absurd (omega (arith, e.1))
          before missed e holds = later 6 5 (omega arith) e

      pub missed_first : AreOrdered t c (length c.answers) → IsCount t c limit c.ended (length c.answers)
          → Holds t c limit missed → IsFirstFlaw t c limit missed
      missed_first ordered count h = record { holds = h; first = before }
        where
          before : (g : Flaw) → IsEarlier g missed → Holds t c limit g → ⊥
          before (no_solution j) e holds = bound_none j holds
          before (bound_twice j) e holds = twice_none j holds
          before (weak u) e holds = weak_none u holds
          before (no_answer j) e holds = bad_none j holds
          before (not_in_order j) e holds = behind_none (length c.answers) ordered j holds.1 holds
          before wrong_count e holds = holds count
          before missed (inl e) holds = absurd (omega (arith, e))
          before missed (inr e) holds = absurd (omega (arith, e.1))
