-- Valid certificates.
use Rattle.std.specs.Prelude.{◌≡◌, ◌≢◌, ◌⊎◌, ℕ, ◌-◌, ◌+◌, ◌<◌, ◌≤◌, suc, cond, nat_le, Bool, true, false}
use Rattle.std.specs.Prelude.{Option, None, Some, [], length, slice_index_or}
use Rattle.tdp_model.specs.Remains.{AtMost}
use Rattle.tdp_model.specs.TreeProblem.{sum_from, kid_key}
use Rattle.proof_model.specs.Certificate.{BoundLine, AnswerLine, Certificate}
use Rattle.proof_model.specs.Problem.{Problem, row_in, key_at, IsSolutionAt}

-- why a certificate is not valid; bounds, nodes and answers are told by their places, from 0
pub data Flaw : Type 0 where
  no_solution : (bound : ℕ) → Flaw
  bound_twice : (bound : ℕ) → Flaw
  weak : (node : ℕ) → Flaw
  no_answer : (answer : ℕ) → Flaw
  not_in_order : (answer : ℕ) → Flaw
  wrong_count : Flaw
  missed : Flaw

-- the order in which flaws are told: by stages, and in a stage by places
abbrev pub stage : Flaw → ℕ
stage (no_solution i) = 0
stage (bound_twice i) = 1
stage (weak v) = 2
stage (no_answer i) = 3
stage (not_in_order i) = 4
stage wrong_count = 5
stage missed = 6

-- the place of a bound, a node or an answer
abbrev pub place : Flaw → ℕ
place (no_solution i) = i
place (bound_twice i) = i
place (weak v) = v
place (no_answer i) = i
place (not_in_order i) = i
place wrong_count = 0
place missed = 0

-- the flaw is told before the other one
abbrev pub IsEarlier : Flaw → Flaw → Type 0
IsEarlier f g = (stage f < stage g) ⊎ ((stage f ≡ stage g) × (place f < place g))

-- bounds and answers are told by their places, from 0
module _ {K : Type 0} (t : Problem K) (c : Certificate) where
  abbrev pub bound_at : ℕ → BoundLine
  bound_at i = slice_index_or c.bounds i (record { line = 0; node = 0; rows = [] })

  abbrev pub answer_at : ℕ → AnswerLine
  answer_at i = slice_index_or c.answers i (record { line = 0; rows = [] })

  -- bound i is one of node v
  abbrev pub IsBoundOf : ℕ → ℕ → Type 0
  IsBoundOf v i = (i < length c.bounds) × ((bound_at i).node ≡ suc v)

  -- its row at node v, and its key
  abbrev pub bound_row : ℕ → ℕ → ℕ
  bound_row v i = row_in t v (bound_at i).rows v

  abbrev pub bound_key : ℕ → ℕ → K
  bound_key v i = key_at t v (bound_at i).rows

  -- bound i stands for the group of a row of node v
  abbrev pub StandsFor : ℕ → ℕ → ℕ → Type 0
  StandsFor v row i = IsBoundOf v i × t.IsGrouped v row (bound_row v i)

  -- bound i stands for the group of node v that row `above` of its parent names
  abbrev pub Serves : ℕ → ℕ → ℕ → Type 0
  Serves v above i = IsBoundOf v i × t.Fits v above (bound_row v i)

  -- If each child's group has a bound, the row's own group has one, not after the sum of the row's
  -- key and theirs.
  abbrev pub IsCovered : ℕ → ℕ → Type 0
  IsCovered v row =
      (below : ℕ → ℕ) → ((q : ℕ) → v < q → q < t.nodes → t.parent q ≡ v → Serves q row (below q))
      → (i : ℕ) × StandsFor v row i
      × AtMost t.Below (bound_key v i) (t.add (t.key v row)
      (sum_from t.add t.none (kid_key t.none t.parent v (λ q. bound_key q (below q)))
      (t.nodes - suc v) (suc v)))

  -- the row of answer i at node q
  abbrev pub answer_row : ℕ → ℕ → ℕ
  answer_row i q = row_in t 0 (answer_at i).rows q

  abbrev pub answer_key : ℕ → K
  answer_key i = key_at t 0 (answer_at i).rows

  -- answer i begins with these rows of the first n nodes
  abbrev pub Begins : ℕ → (ℕ → ℕ) → ℕ → Type 0
  Begins i rows n = (i < length c.answers) × ((q : ℕ) → q < n → answer_row i q ≡ rows q)

  -- Rows for the nodes up to `at`. Those before `at` are none or begin an answer, and no such
  -- answer has the last one. Each group that these rows name and choose no row from has a bound.
  pub record OpenChoice : Type 0 where
    pub at : ℕ
    pub rows : ℕ → ℕ
    pub below : ℕ → ℕ
    pub node : at < t.nodes
    pub begun : (at ≡ 0) ⊎ ((i : ℕ) × Begins i rows at)
    pub row : t.IsRow at (rows at)
    pub fits : (at ≡ 0) ⊎ t.Fits at (rows (t.parent at)) (rows at)
    pub unlisted : (i : ℕ) → Begins i rows at → answer_row i at ≢ rows at
    pub bound : (q : ℕ) → at < q → q < t.nodes → t.parent q ≤ at
        → Serves q (rows (t.parent q)) (below q)

  -- the keys of its rows and of its bounds add up to this
  abbrev pub choice_key : OpenChoice → K
  choice_key o =
      sum_from t.add t.none
      (λ q. cond (nat_le q o.at) (t.key q (o.rows q))
      (cond (nat_le (t.parent q) o.at) (bound_key q (o.below q)) t.none)) t.nodes 0

  -- as many answers as the limit, or, if the certificate says `end`, no more than it
  abbrev pub IsCount : Option ℕ → Bool → ℕ → Type 0
  IsCount limit false k = limit ≡ Some k
  IsCount None true k = Unit {0}
  IsCount (Some n) true k = k ≤ n

  -- what the choice offers comes after the last answer, and if the certificate says `end` there is
  -- no choice
  abbrev pub IsPassed : Bool → OpenChoice → Type 0
  IsPassed true o = ⊥
  IsPassed false o = 0 < length c.answers
      → t.Below (answer_key (length c.answers - 1)) (choice_key o)

  pub record IsValid (limit : Option ℕ) : Type 0 where
    pub bounds : (i : ℕ) → i < length c.bounds
        → (v : ℕ) × ((bound_at i).node ≡ suc v) × IsSolutionAt t v (bound_at i).rows
    pub apart : (v i j : ℕ) → i < j → IsBoundOf v i → IsBoundOf v j
        → t.IsGrouped v (bound_row v i) (bound_row v j) → ⊥
    pub covered : (v row : ℕ) → v < t.nodes → t.IsRow v row → IsCovered v row
    pub answers : (i : ℕ) → i < length c.answers → IsSolutionAt t 0 (answer_at i).rows
    pub ascending : (i : ℕ) → i + 1 < length c.answers → t.Below (answer_key i) (answer_key (i + 1))
    pub count : IsCount limit c.ended (length c.answers)
    pub passed : (o : OpenChoice) → IsPassed c.ended o

  -- the certificate has the flaw
  abbrev pub Holds : Option ℕ → Flaw → Type 0
  Holds limit (no_solution i) =
      (i < length c.bounds)
      × ((v : ℕ) → (bound_at i).node ≡ suc v → IsSolutionAt t v (bound_at i).rows → ⊥)
  Holds limit (bound_twice j) =
      (v i : ℕ) × (i < j) × IsBoundOf v i × IsBoundOf v j
      × t.IsGrouped v (bound_row v i) (bound_row v j)
  Holds limit (weak v) = (row : ℕ) × (v < t.nodes) × t.IsRow v row × (IsCovered v row → ⊥)
  Holds limit (no_answer i) = (i < length c.answers) × (IsSolutionAt t 0 (answer_at i).rows → ⊥)
  Holds limit (not_in_order i) =
      (0 < i) × (i < length c.answers) × (t.Below (answer_key (i - 1)) (answer_key i) → ⊥)
  Holds limit wrong_count = IsCount limit c.ended (length c.answers) → ⊥
  Holds limit missed = (o : OpenChoice) × (IsPassed c.ended o → ⊥)

  -- the flaw holds, and none before it
  pub record IsFirstFlaw (limit : Option ℕ) (f : Flaw) : Type 0 where
    pub holds : Holds limit f
    pub first : (g : Flaw) → IsEarlier g f → Holds limit g → ⊥
