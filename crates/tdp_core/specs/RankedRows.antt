-- The rows of a node, from the list of their ranks and that of their numbers.
use Rattle.std.specs.Prelude.{ℕ, List, [], ◌∷◌}
use Rattle.tdp_core.specs.declared.parts.NodeRow.{NodeRow}

-- each rank beside the number at its place
abbrev pub ranked_rows : {R : Type 0} → List R → List ℕ → List (NodeRow R)
ranked_rows [] numbers = []
ranked_rows (rank ∷ ranks) [] = []
ranked_rows (rank ∷ ranks) (number ∷ numbers) =
    record { rank = rank; row = number } ∷ ranked_rows ranks numbers
