-- Worked rows, by computation.
use Rattle.std.proofs.Common.{◌≡◌, refl, ℕ, List, [], ◌∷◌, None, codes, false, true, pos, negsuc}
use Rattle.tdp_model.specs.KeyNumbers.{numbers}
use Rattle.tdp_core.specs.AnswerView.{rows_of_key, slot_list}
use Rattle.anyk_model.specs.Table.{Table}
use Rattle.anyk_model.specs.Query.{Query, of_column}
use Rattle.anyk_model.specs.Ranking.{ranking_of}
use Rattle.witness_key.specs.WitnessKey.{answer_of_witness, witness_key}

abbrev row : List ℕ → List ℕ → List ℕ → List (List ℕ)
row a b w = a ∷ b ∷ w ∷ []

abbrev tables : List Table
tables =
    record { names = row (codes "a") (codes "b") (codes "w"); rows = row (codes "1") (codes "x") (codes "3") ∷ row (codes "2") (codes "y") (codes "1") ∷ [] }
    ∷ record { names = row (codes "b") (codes "c") (codes "w"); rows = row (codes "x") (codes "p") (codes "5") ∷ row (codes "x") (codes "q") (codes "4") ∷ [] } ∷ []

-- the first table's weights descending, and then the second's
abbrev by_two : Query
by_two = record {
  items = record { table = 0; alias = codes "R" } ∷ record { table = 1; alias = codes "S" } ∷ [];
  equalities = record { left = record { item = 0; place = 1 }; right = of_column (record { item = 1; place = 0 }) } ∷ [];
  order = record { terms = record { minus = false; column = record { item = 0; place = 2 } } ∷ []; descending = true }
      ∷ record { terms = record { minus = false; column = record { item = 1; place = 2 } } ∷ []; descending = false } ∷ [];
  list = [];
  limit = None;
}

-- two sums, and a zero for the third that a rank of three has room for; then two row numbers, and zeros
key_numbers : numbers 3 16 (witness_key 3 by_two tables (1 ∷ 2 ∷ []))
    ≡ negsuc 2 ∷ pos 4 ∷ pos 0 ∷ pos 1 ∷ pos 2 ∷ pos 0 ∷ pos 0 ∷ pos 0 ∷ pos 0 ∷ pos 0 ∷ pos 0 ∷ pos 0 ∷ pos 0 ∷ pos 0 ∷ pos 0 ∷ pos 0 ∷ pos 0 ∷ pos 0 ∷ pos 0 ∷ []
key_numbers = refl

answer_rows : (answer_of_witness 2 by_two tables (1 ∷ 2 ∷ [])).rows ≡ 1 ∷ 2 ∷ 0 ∷ 0 ∷ 0 ∷ 0 ∷ 0 ∷ 0 ∷ 0 ∷ 0 ∷ 0 ∷ 0 ∷ 0 ∷ 0 ∷ 0 ∷ 0 ∷ []
unfolding rows_of_key slot_list
answer_rows = refl

best_first : ranking_of by_two tables ≡ (1 ∷ 2 ∷ []) ∷ (1 ∷ 1 ∷ []) ∷ []
best_first = refl
