-- The answers of a certificate, told by the places of their rows.
use Rattle.std.specs.Prelude.{◌≡◌, ℕ, ◌+◌, ◌-◌, ◌<◌, List, [], Option, None, Some, length, slice_index, slice_index_or}
use Rattle.anyk_model.specs.Table.{Table}
use Rattle.anyk_model.specs.Query.{Query}
use Rattle.join_tree.specs.declared.tree.JoinTree.{JoinTree}
use Rattle.tdp_model.specs.KeyTuple.{KeyOf}
use Rattle.tdp_core.specs.RawView.{RawView, raw_len, raw_number}
use Rattle.proof_model.specs.Certificate.{Certificate}
use Rattle.proof_model.specs.Problem.{IsSolutionAt}
use Rattle.proof_model.specs.QueryProblem.{problem_in}
use Rattle.proof_model.specs.Valid.{IsCount, IsCovered, answer_at, answer_key, answer_row}
use Rattle.proof_check.specs.BoundedRows.{query_key}

-- the place of the row of answer i at node q
abbrev pub place_at : List (List ℕ) → ℕ → ℕ → ℕ
place_at places i q = slice_index (slice_index_or places i []) q

-- the rank of the last answer
abbrev pub IsLastKey : (query : Query) (tables : List Table) (join : JoinTree) (d : ℕ) → Certificate
    → Option (KeyOf d 16) → Type 0
IsLastKey query tables join d c None = length c.answers ≡ 0
IsLastKey query tables join d c (Some k) =
    (0 < length c.answers)
    × (k ≡ query_key query d (answer_key (problem_in query tables join) c (length c.answers - 1)))

module _ (query : Query) (tables : List Table) (join : JoinTree) (c : Certificate) where
  -- Each answer has a row for each node, told by its place. Rows are compared with the bounds, and
  -- the answers are solutions in order, as many as they may be.
  pub record ArePlaced {R : Type 0} (raw : RawView R) (places : List (List ℕ)) : Type 0 where
    pub count : length places ≡ length c.answers
    pub within : (i q : ℕ) → i < length c.answers → q < (problem_in query tables join).nodes
        → place_at places i q < raw_len raw q
    pub rows : (i q : ℕ) → i < length c.answers → q < (problem_in query tables join).nodes
        → raw_number raw q (place_at places i q) ≡ answer_row (problem_in query tables join) c i q
    -- as in a valid certificate
    pub covered : (v row : ℕ) → v < (problem_in query tables join).nodes
        → (problem_in query tables join).IsRow v row
        → IsCovered (problem_in query tables join) c v row
    pub answers : (i : ℕ) → i < length c.answers
        → IsSolutionAt (problem_in query tables join) 0
        (answer_at (problem_in query tables join) c i).rows
    pub ascending : (i : ℕ) → i + 1 < length c.answers
        → (problem_in query tables join).Below (answer_key (problem_in query tables join) c i)
        (answer_key (problem_in query tables join) c (i + 1))
    pub limited : IsCount (problem_in query tables join) c query.limit c.ended (length c.answers)
