-- The rows of a combination, place by place.
use Rattle.std.proofs.Common.{◌≡◌, ◌<◌, ◌≤◌, ℕ, zero, suc, List, [], ◌∷◌, length, get_or, refl, ap, arith}
use Rattle.anyk_model.specs.Query.{IsCombination}

pub combination_at : (counts rows : List ℕ) (i : ℕ) → IsCombination counts rows → i < length counts → (1 ≤ get_or rows i 0) × (get_or rows i 0 ≤ get_or counts i 0)
combination_at [] rows i c inside = absurd (omega arith)
combination_at (count ∷ counts) [] i c inside = absurd c
combination_at (count ∷ counts) (row ∷ rows) zero c inside = (c.0, c.1)
combination_at (count ∷ counts) (row ∷ rows) (suc i) c inside = combination_at counts rows i c.2 (omega arith)

pub combination_length : (counts rows : List ℕ) → IsCombination counts rows → length rows ≡ length counts
combination_length [] [] c = refl
combination_length [] (row ∷ rows) c = absurd c
combination_length (count ∷ counts) [] c = absurd c
combination_length (count ∷ counts) (row ∷ rows) c = ap suc (combination_length counts rows c.2)
