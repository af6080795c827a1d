-- The certificate that is written for a tree problem and its ranking.
use Rattle.std.specs.Prelude.{◌≡◌, ◌⊎◌, ℕ, ◌+◌, ◌<◌, suc, pos, List, map, length}
use Rattle.anyk_model.specs.Ranking.{IsBefore}
use Rattle.rankings.specs.Order.{IsAscending}
use Rattle.tdp_model.specs.Remains.{AtMost}
use Rattle.proof_model.specs.Certificate.{BoundLine, Certificate}
use Rattle.proof_model.specs.Problem.{Problem, row_in, key_at, IsSolutionAt}
use Rattle.proof_model.specs.Valid.{StandsFor, bound_at, answer_at}

-- bounds by ascending node, and those of one node by their rows
abbrev pub BoundBefore : BoundLine → BoundLine → Type 0
BoundBefore a b = (a.node < b.node)
    ⊎ ((a.node ≡ b.node) × IsBefore (map pos a.rows) (map pos b.rows))

module _ {K : Type 0} (t : Problem K) (c : Certificate) where
  -- no subtree solution of the group of its row has a lesser key
  pub record IsFirstOfGroup (v : ℕ) (rows : List ℕ) : Type 0 where
    pub solution : IsSolutionAt t v rows
    pub least : (other : List ℕ) → IsSolutionAt t v other
        → t.IsGrouped v (row_in t v other v) (row_in t v rows v)
        → AtMost t.Below (key_at t v rows) (key_at t v other)

  -- The first solution of each group that has one, in order, and then the first answers. Lines are
  -- numbered from 2.
  pub record IsWritten (listed : List (List ℕ)) : Type 0 where
    pub ordered : IsAscending BoundBefore c.bounds
    pub firsts : (i : ℕ) → i < length c.bounds
        → (v : ℕ) × ((bound_at t c i).node ≡ suc v) × IsFirstOfGroup v (bound_at t c i).rows
    pub each : (v : ℕ) (rows : List ℕ) → IsSolutionAt t v rows
        → (i : ℕ) × StandsFor t c v (row_in t v rows v) i
    pub answers : map (λ a. a.rows) c.answers ≡ listed
    pub bound_lines : (i : ℕ) → i < length c.bounds → (bound_at t c i).line ≡ i + 2
    pub answer_lines : (i : ℕ) → i < length c.answers
        → (answer_at t c i).line ≡ length c.bounds + i + 2
