-- The rows of tables, one table after another.
use Rattle.std.proofs.Common.{◌≡◌, ◌+◌, ◌<◌, ◌≤◌, ◌∷◌, [], ℕ, zero, suc, List, length, take, ap, add-one, arith}
use Rattle.std.proofs.lemmas.List.{take_all}
use Rattle.anyk_model.specs.Table.{Table, table_at}
use Rattle.output_model.specs.Summary.{rows_in_all}

pub rows_more : (tables : List Table) (i : ℕ) → i < length tables → rows_in_all (take (i + 1) tables) ≡ rows_in_all (take i tables) + length (table_at tables i).rows
rows_more [] i inside = absurd (omega (arith, inside))
rows_more (t ∷ tables) zero inside = omega arith
rows_more (t ∷ tables) (suc i) inside =
    let shown = ap (λ (n : ℕ). rows_in_all (take n (t ∷ tables))) (add-one (suc i)) in
    let also = ap (λ (n : ℕ). rows_in_all (take n tables)) (add-one i) in
    omega (arith, rows_more tables i (omega (arith, inside)), shown, also)

pub rows_all : (tables : List Table) (i : ℕ) → length tables ≤ i → rows_in_all (take i tables) ≡ rows_in_all tables
rows_all tables i end = ap rows_in_all (take_all i tables end)
