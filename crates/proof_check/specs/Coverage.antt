-- Nodes whose rows are all covered by the bounds of their groups.
use Rattle.std.specs.Prelude.{ℕ, ◌<◌}
use Rattle.proof_model.specs.Certificate.{Certificate}
use Rattle.proof_model.specs.Problem.{Problem}
use Rattle.proof_model.specs.Valid.{IsCovered}

module _ {K : Type 0} (t : Problem K) (c : Certificate) where
  -- each row of node v is covered
  abbrev pub AllCovered : ℕ → Type 0
  AllCovered v = (row : ℕ) → t.IsRow v row → IsCovered t c v row

  -- some row of node v is not
  abbrev pub HasWeakRow : ℕ → Type 0
  HasWeakRow v = (row : ℕ) × t.IsRow v row × (IsCovered t c v row → ⊥)

  -- node v is the first one with a row that is not covered
  abbrev pub IsFirstWeak : ℕ → Type 0
  IsFirstWeak v = (v < t.nodes) × HasWeakRow v × ((u : ℕ) → u < v → AllCovered u)
