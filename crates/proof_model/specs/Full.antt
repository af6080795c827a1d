-- Certificates that leave nothing out: each group with a solution has its least bound, and the
-- answers are the first solutions.
use Rattle.std.specs.Prelude.{◌≡◌, ℕ, ◌+◌, ◌-◌, ◌<◌, suc, false, Option, length}
use Rattle.tdp_model.specs.Remains.{AtMost}
use Rattle.proof_model.specs.Certificate.{Certificate}
use Rattle.proof_model.specs.Problem.{Problem, IsSolutionAt}
use Rattle.proof_model.specs.Laws.{IsSubtree, subtree_key}
use Rattle.proof_model.specs.Valid.{IsBoundOf, IsCount, Begins, StandsFor}
use Rattle.proof_model.specs.Valid.{answer_at, answer_key, bound_at, bound_key, bound_row}

pub record IsFull {K : Type 0} (t : Problem K) (c : Certificate) (limit : Option ℕ) : Type 0 where
  pub bounds : (i : ℕ) → i < length c.bounds
      → (v : ℕ) × ((bound_at t c i).node ≡ suc v) × IsSolutionAt t v (bound_at t c i).rows
  pub apart : (v i j : ℕ) → i < j → IsBoundOf t c v i → IsBoundOf t c v j
      → t.IsGrouped v (bound_row t c v i) (bound_row t c v j) → ⊥
  -- each solution of a subtree has a bound of its group that is not after it
  pub least : (v : ℕ) (s : ℕ → ℕ) → IsSubtree t v s
      → (i : ℕ) × StandsFor t c v (s v) i × AtMost t.Below (bound_key t c v i) (subtree_key t v s)
  pub answers : (i : ℕ) → i < length c.answers → IsSolutionAt t 0 (answer_at t c i).rows
  pub ascending : (i : ℕ) → i + 1 < length c.answers
      → t.Below (answer_key t c i) (answer_key t c (i + 1))
  pub count : IsCount t c limit c.ended (length c.answers)
  -- a solution that is not listed comes after the last answer, and there is none if the certificate
  -- says `end`
  pub others : (s : ℕ → ℕ) → IsSubtree t 0 s → ((i : ℕ) → Begins t c i s t.nodes → ⊥)
      → (c.ended ≡ false)
      × (0 < length c.answers → t.Below (answer_key t c (length c.answers - 1)) (subtree_key t 0 s))
