-- One answer more among those whose beginnings are numbered.
use Rattle.std.specs.Prelude.{◌≡◌, ℕ, ◌⊎◌, List, [], ◌∷◌, ◌++◌, slice_index}
use Rattle.proof_check.specs.Levels.{IsPairAt}

-- The answer gets the number of the pair of its number before and its row. A new pair has its
-- places.
pub record IsAdding (node : ℕ) (places : List ℕ) (before : ℕ) (old new : List (ℕ × ℕ))
    (numbers more : List ℕ)
    (starts longer : List (List ℕ)) : Type 0 where
  pub number : ℕ
  pub stands : IsPairAt new number (before, slice_index places node)
  pub numbered : more ≡ numbers ++ number ∷ []
  pub added : ((new ≡ old) × (longer ≡ starts))
      ⊎ ((new ≡ old ++ (before, slice_index places node) ∷ []) × (longer ≡ starts ++ places ∷ [])
      × ((k : ℕ) → IsPairAt old k (before, slice_index places node) → ⊥))
