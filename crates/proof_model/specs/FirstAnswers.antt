-- The keys of the solutions of a tree problem, and those of the answers of a certificate.
use Rattle.std.specs.Prelude.{◌≡◌, ℕ, List, map}
use Rattle.proof_model.specs.Certificate.{AnswerLine, Certificate}
use Rattle.proof_model.specs.Problem.{Problem, key_at}
use Rattle.proof_model.specs.Laws.{IsSubtree, subtree_key}

module _ {K : Type 0} (t : Problem K) where
  -- some solution has the key
  abbrev pub IsSolutionKey : K → Type 0
  IsSolutionKey k = (rows : ℕ → ℕ) × IsSubtree t 0 rows × (subtree_key t 0 rows ≡ k)

  -- the keys of the answers, in their order
  abbrev pub answer_keys : Certificate → List K
  answer_keys c = map (λ (a : AnswerLine). key_at t 0 a.rows) c.answers
