-- Sums over the nodes.
use Rattle.std.proofs.Common.{◌≡◌, ℕ, zero, suc, ◌+◌, List, [], length, get_or, drop, sum_by, sym, ap, ◌∙◌, arith}
use Rattle.std.proofs.lemmas.List.{drop_all}
use Rattle.tdp_model.specs.TreeProblem.{sum_from}
use Rattle.semi_join.proofs.FromLast.{rows_more}

-- the lengths of the lists from number q on
pub sum_rows : {X : Type 0} (rows : List (List X)) (n q : ℕ) → q + n ≡ length rows → sum_from ◌+◌ 0 (λ v. length (get_or rows v [])) n q ≡ sum_by length (drop q rows)
unfolding sum_from
sum_rows rows zero q e = sym (ap (sum_by length) (drop_all q rows (omega (arith, e))))
sum_rows rows (suc n) q e =
    ap (λ z. length (get_or rows q []) + z) (sum_rows rows n (suc q) (omega (arith, e))) ∙ sym (rows_more rows q (omega (arith, e)))
