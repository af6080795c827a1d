-- The rows of answers, as the certificate has them.
use Rattle.std.proofs.Common.{◌≡◌, ℕ, zero, suc, ◌+◌, ◌<◌, ◌≤◌, List, [], ◌∷◌, length, map, slice_index_or, refl}
use Rattle.std.proofs.Common.{ap, ◌∙◌, arith}
use Rattle.tdp_model.specs.TreeProblem.{sum_from}
use Rattle.join_tree.specs.Rerooting.{IsTree}
use Rattle.join_tree.specs.declared.tree.JoinTree.{JoinTree}
use Rattle.anyk_model.specs.Query.{Query}
use Rattle.anyk_model.specs.Table.{Table}
use Rattle.proof_model.specs.declared.proof.Listed.{Listed}
use Rattle.proof_model.specs.Certificate.{AnswerLine}
use Rattle.proof_model.specs.ProofView.{listed_view}
use Rattle.proof_model.specs.Problem.{Problem, size}
use Rattle.proof_model.specs.Laws.{IsProblem}
use Rattle.proof_model.specs.QueryProblem.{problem_in}
use Rattle.proof_model.proofs.QueryLaws.{query_problem}
use Rattle.proof_model.proofs.Soundness.{all_below}
use Rattle.proof_check.proofs.Nodes.{all_nodes, parents_earlier}
use Rattle.proof_check.specs.RowLists.{list_at}

sum_ones : (f : ℕ → ℕ) (n q : ℕ) → ((i : ℕ) → q ≤ i → i < q + n → f i ≡ 1) → sum_from ◌+◌ 0 f n q ≡ n
unfolding sum_from
sum_ones f zero q e = refl
sum_ones f (suc n) q e = omega (arith, e q (omega arith) (omega arith), sum_ones f n (suc q) (λ i l h. e i (omega arith) (omega arith)))

-- a solution of the whole tree has a row for each node
pub root_size : {K : Type 0} (t : Problem K) (laws : IsProblem t) → size t 0 ≡ t.nodes
root_size t laws = sum_ones _ t.nodes 0 (λ i _ l. let h : i < t.nodes = omega (arith, l) in all_below t laws i i (omega arith) h)

pub tree_size : (query : Query) (tables : List Table) (join : JoinTree) → IsTree join.count join.atom join.parent
    → length join.atom ≡ 16 → 0 < join.count → size (problem_in query tables join) 0 ≡ join.count
tree_size query tables join ordered long some =
    let nodes = all_nodes query tables join ordered long in
    root_size (problem_in query tables join)
    (query_problem query tables _ _ (omega (arith, nodes, some)) (λ q p l. parents_earlier query tables join ordered q p l))
    ∙ nodes

-- the rows of an answer
pub rows_seen : (xs : List Listed) → map (λ (a : AnswerLine). a.rows) (map listed_view xs) ≡ map (λ (a : Listed). a.rows.items) xs
rows_seen [] = refl
rows_seen (x ∷ xs) = ap (λ ys. x.rows.items ∷ ys) (rows_seen xs)

pub rows_at : (xs : List Listed) (i : ℕ) → i < length xs
    → list_at (map (λ (a : Listed). a.rows.items) xs) i ≡ (slice_index_or (map listed_view xs) i (record { line = 0; rows = [] })).rows
rows_at [] i l = absurd (omega (arith, l))
rows_at (x ∷ xs) zero l = refl
rows_at (x ∷ xs) (suc i) l = rows_at xs i (omega (arith, l))
