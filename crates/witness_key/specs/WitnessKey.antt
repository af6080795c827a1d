-- The key of a rank that stands for a combination of rows of a query, and the answer as which it is
-- seen.
use Rattle.std.specs.Prelude.{◌≡◌, ℕ, List, length, map, take}
use Rattle.std.specs.List.{AllByRecursion}
use Rattle.tdp_model.specs.KeyTuple.{KeyOf}
use Rattle.tdp_model.specs.KeyNumbers.{key_of_lists}
use Rattle.tdp_core.specs.AnswerView.{AnswerView, answer_of}
use Rattle.anyk_model.specs.Table.{Table}
use Rattle.anyk_model.specs.Query.{Query, IsCombination, IsWitness, rank_of, row_counts}

-- the sums as they are compared, filled with zeros up to d sums, and each row number in the slot of
-- its item
abbrev pub witness_key : (d : ℕ) → Query → List Table → List ℕ → KeyOf d 16
witness_key d query tables rows = key_of_lists d 16
    (map (rank_of query tables rows) query.order) rows

-- the key of some witness
pub record IsWitnessKey (d : ℕ) (query : Query) (tables : List Table)
    (key : KeyOf d 16) : Type 0 where
  pub rows : List ℕ
  pub witness : IsWitness query tables rows
  pub is : key ≡ witness_key d query tables rows

-- the answer that stands for a combination: its row numbers, filled with zeros up to 16, and the
-- numbers of its key
abbrev pub answer_of_witness : (d : ℕ) → Query → List Table → List ℕ → AnswerView
answer_of_witness d query tables rows = answer_of d (witness_key d query tables rows)

-- the answers that stand for combinations
abbrev pub answers_of_ranking : (d : ℕ) → Query → List Table → List (List ℕ) → List AnswerView
answers_of_ranking d query tables list = map (answer_of_witness d query tables) list

-- the combinations that answers stand for: the rows of the query's items, of each answer
abbrev pub combinations_in : Query → List AnswerView → List (List ℕ)
combinations_in query answers = map (λ (a : AnswerView). take (length query.items) a.rows) answers

-- each answer stands for a combination of rows of the query's items
abbrev pub AreCombinations : Query → List Table → List AnswerView → Type 0
AreCombinations query tables answers =
    AllByRecursion (λ (a : AnswerView). IsCombination (row_counts query.items tables)
    (take (length query.items) a.rows)) answers
