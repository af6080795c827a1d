-- Answers that are solutions, and their order.
use Rattle.std.specs.Prelude.{◌≡◌, ◌⊎◌, ℕ, ◌+◌, ◌-◌, ◌<◌, ◌≤◌, List, [], length, slice_index_or}
use Rattle.anyk_model.specs.Table.{Table}
use Rattle.anyk_model.specs.Query.{Query}
use Rattle.join_tree.specs.declared.tree.JoinTree.{JoinTree}
use Rattle.tdp_model.specs.KeyTuple.{KeyOf}
use Rattle.tdp_core.specs.RawView.{RawView}
use Rattle.proof_model.specs.Certificate.{Certificate}
use Rattle.proof_model.specs.declared.fault.ProofFault.{ProofFault}
use Rattle.proof_model.specs.declared.fault.ProofFault.TheVariants as fault
use Rattle.proof_model.specs.Problem.{Problem, IsSolutionAt}
use Rattle.proof_model.specs.QueryProblem.{problem_in}
use Rattle.proof_model.specs.Valid.{answer_at, answer_key}
use Rattle.proof_check.specs.BoundedRows.{HasProblemRows}
use Rattle.proof_check.specs.Places.{ArePlacesOf}

module _ {K : Type 0} (t : Problem K) (c : Certificate) where
  -- answer i is the first one that is no solution
  abbrev pub IsFirstBad : ℕ → Type 0
  IsFirstBad i =
      (i < length c.answers) × (IsSolutionAt t 0 (answer_at t c i).rows → ⊥)
      × ((j : ℕ) → j < i → IsSolutionAt t 0 (answer_at t c j).rows)

  -- the first n answers are in order
  abbrev pub AreOrdered : ℕ → Type 0
  AreOrdered n = (i : ℕ) → i + 1 < n → t.Below (answer_key t c i) (answer_key t c (i + 1))

  -- answer i is the first one that is not after the one before it
  abbrev pub IsFirstBehind : ℕ → Type 0
  IsFirstBehind i =
      (0 < i) × (i < length c.answers) × (t.Below (answer_key t c (i - 1)) (answer_key t c i) → ⊥)
      × AreOrdered i

  -- memory ran out, or this answer is the first bad one
  abbrev pub TellsBad : ProofFault → Type 0
  TellsBad told =
      (told ≡ fault.NoMemory)
      ⊎ ((i : ℕ) × (told ≡ fault.BadAnswer (answer_at t c i).line) × IsFirstBad i)

  -- this answer is the first one that is not in order
  abbrev pub TellsBehind : ProofFault → Type 0
  TellsBehind told = (i : ℕ) × (told ≡ fault.Order (answer_at t c i).line) × IsFirstBehind i

-- the places of the rows of each answer
pub record AreAnswers {R : Type 0} (query : Query) (tables : List Table) (join : JoinTree)
    (raw : RawView R)
    (c : Certificate)
    (places : List (List ℕ)) : Type 0 where
  pub count : length places ≡ length c.answers
  pub each : (i : ℕ) → i < length c.answers
      → ArePlacesOf query tables join raw 0 (answer_at (problem_in query tables join) c i).rows
      (slice_index_or places i [])

-- the raw tree has the rows of some query, ranks have room for its order keys, and the places are
-- those of the answers
pub record HasAnswers {R : Type 0} (d : ℕ) (key : R → KeyOf d 16) (raw : RawView R)
    (c : Certificate)
    (places : List (List ℕ)) : Type 0 where
  pub query : Query
  pub tables : List Table
  pub join : JoinTree
  pub few : length query.order ≤ d
  pub tree : HasProblemRows query tables join d key raw
  pub answers : AreAnswers query tables join raw c places
