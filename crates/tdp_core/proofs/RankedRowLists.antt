-- Rows whose ranks and whose numbers lie in two lists.
use Rattle.std.proofs.Common.{◌≡◌, ℕ, zero, suc, ◌<◌, List, [], ◌∷◌, ◌++◌, length, map, take, get_or, slice_get, Some, refl, ap, ◌∙◌, sym, arith}
use Rattle.std.proofs.Math.ListN.{set}
use Rattle.tdp_core.specs.declared.parts.NodeRow.{NodeRow}
use Rattle.tdp_core.specs.RankedRows.{ranked_rows}

module _ {R : Type 0} where
  pub rows_length : (ranks : List R) (numbers : List ℕ) → length numbers ≡ length ranks → length (ranked_rows ranks numbers) ≡ length numbers
  rows_length [] numbers e = sym e
  rows_length (rank ∷ ranks) [] e = absurd (omega (arith, e))
  rows_length (rank ∷ ranks) (number ∷ numbers) e = ap suc (rows_length ranks numbers (omega (arith, e)))

  pub row_here : (ranks : List R) (numbers : List ℕ) (i : ℕ) (rank : R) (number : ℕ) → length numbers ≡ length ranks → i < length numbers → rank ≡ get_or ranks i rank
      → number ≡ get_or numbers i number → slice_get (ranked_rows ranks numbers) i ≡ Some (record { rank = rank; row = number })
  row_here [] numbers i r n e h is at = absurd (omega (arith, h, e))
  row_here (rank ∷ ranks) [] i r n e h is at = absurd (omega (arith, h))
  row_here (rank ∷ ranks) (number ∷ numbers) zero r n e h is at = ap (λ x. Some (record { rank = x; row = number })) (sym is) ∙ ap (λ x. Some (record { rank = r; row = x })) (sym at)
  row_here (rank ∷ ranks) (number ∷ numbers) (suc i) r n e h is at = row_here ranks numbers i r n (omega (arith, e)) (omega (arith, h)) is at

  -- one row more
  pub row_more : (row : NodeRow R) (ranks : List R) (numbers : List ℕ) → length numbers ≡ length ranks
      → ranked_rows (ranks ++ row.rank ∷ []) (numbers ++ row.row ∷ []) ≡ ranked_rows ranks numbers ++ row ∷ []
  row_more row [] [] e = refl
  row_more row [] (n ∷ numbers) e = absurd (omega (arith, e))
  row_more row (r ∷ ranks) [] e = absurd (omega (arith, e))
  row_more row (r ∷ ranks) (n ∷ numbers) e = ap (λ l. record { rank = r; row = n } ∷ l) (row_more row ranks numbers (omega (arith, e)))

  -- the ranks alone
  pub ranks_are : (ranks : List R) (numbers : List ℕ) → length numbers ≡ length ranks → map (λ x. x.rank) (ranked_rows ranks numbers) ≡ ranks
  ranks_are [] numbers e = refl
  ranks_are (rank ∷ ranks) [] e = absurd (omega (arith, e))
  ranks_are (rank ∷ ranks) (number ∷ numbers) e = ap (λ l. rank ∷ l) (ranks_are ranks numbers (omega (arith, e)))

  -- another row in the place of one
  pub row_set : (row : NodeRow R) (ranks : List R) (numbers : List ℕ) (i : ℕ) → length numbers ≡ length ranks
      → ranked_rows (set ranks i row.rank) (set numbers i row.row) ≡ set (ranked_rows ranks numbers) i row
  row_set row [] [] i e = refl
  row_set row [] (n ∷ numbers) i e = absurd (omega (arith, e))
  row_set row (r ∷ ranks) [] i e = absurd (omega (arith, e))
  row_set row (r ∷ ranks) (n ∷ numbers) zero e = refl
  row_set row (r ∷ ranks) (n ∷ numbers) (suc i) e = ap (λ l. record { rank = r; row = n } ∷ l) (row_set row ranks numbers i (omega (arith, e)))

  -- the first rows
  pub rows_take : (ranks : List R) (numbers : List ℕ) (n : ℕ) → ranked_rows (take n ranks) (take n numbers) ≡ take n (ranked_rows ranks numbers)
  rows_take ranks numbers zero = refl
  rows_take [] numbers (suc n) = refl
  rows_take (rank ∷ ranks) [] (suc n) = refl
  rows_take (rank ∷ ranks) (number ∷ numbers) (suc n) = ap (λ l. record { rank = rank; row = number } ∷ l) (rows_take ranks numbers n)
