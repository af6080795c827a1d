-- What one node gives to what is known before a row is chosen, case by case.
use Rattle.std.proofs.Common.{◌≡◌, ◌≢◌, ◌⊎◌, ℕ, suc, ◌<◌, ◌≤◌, Some, [], List, length, map, option_map, slice_index, slice_index_or}
use Rattle.std.proofs.Common.{sym, subst, ◌∙◌, inl, inr, arith}
use Rattle.std.proofs.lemmas.Bool.{cases_lt}
use Rattle.join_tree.specs.Rerooting.{IsTree}
use Rattle.join_tree.specs.declared.tree.JoinTree.{JoinTree}
use Rattle.tdp_model.specs.KeyTuple.{KeyOf, key_none}
use Rattle.tdp_core.specs.RawView.{raw_len, raw_rank}
use Rattle.proof_model.proofs.Choices.{pick_gt, pick_le}
use Rattle.proof_model.specs.QueryProblem.{problem_in}
use Rattle.proof_check.specs.BoundedRows.{BoundedView, bound_ranks, named_bound, rank_of_bound}
use Rattle.proof_check.specs.LowBounds.{IsBoundedTree}
use Rattle.proof_check.proofs.Nodes.{all_nodes, stored_parent}
use Rattle.proof_check.specs.Levels.{base_part}

module _ {R : Type 0} (join : JoinTree) (tree : BoundedView R) (d : ℕ) (key : R → KeyOf d 16) (p : ℕ) (start : List ℕ)
    (q : ℕ) where
  pub row_part : q < p → base_part join tree d key p start q ≡ Some (raw_rank tree.raw d key q (slice_index start q))
  row_part l = pick_le (suc q) p _ _ l

  pub empty_part : p ≤ q → (q ≡ p) ⊎ (p ≤ slice_index join.parent q)
      → base_part join tree d key p start q ≡ Some (key_none d 16)
  empty_part l (inl e) = pick_gt (suc q) p _ _ (omega (arith, l)) ∙ pick_le q p _ _ (omega (arith, e))
  empty_part l (inr far) =
      pick_gt (suc q) p _ _ (omega (arith, l))
      ∙ elim (cases_lt p q) [
        | inl less ↦ pick_gt q p _ _ less ∙ pick_gt (suc (slice_index join.parent q)) p _ _ (omega (arith, far))
        | inr same ↦ pick_le q p _ _ same
      ]

  pub named_part : p ≤ q → q ≢ p → slice_index join.parent q < p
      → base_part join tree d key p start q
      ≡ option_map (rank_of_bound tree d key q) (named_bound tree q (slice_index start (slice_index join.parent q)))
  named_part l other near =
      pick_gt (suc q) p _ _ (omega (arith, l))
      ∙ pick_gt q p _ _ (omega (arith, l, other)) ∙ pick_le (suc (slice_index join.parent q)) p _ _ near

-- A row of the node above node q has a place among those that name bounds of q, and what it names is there.
pub named_row : {R : Type 0} (join : JoinTree) (tree : BoundedView R) (d : ℕ) (key : R → KeyOf d 16)
    → IsBoundedTree join d key tree → IsTree join.count join.atom join.parent → length join.atom ≡ 16 → (q : ℕ) → q < join.count
    → 0 < q → (r : ℕ) → r < raw_len tree.raw (slice_index join.parent q)
    → (r < length (slice_index_or (map (λ b. b.named.items) tree.bounds) q []))
    × ((b : ℕ) → named_bound tree q r ≡ Some b → b < length (bound_ranks tree q))
named_row join tree d key known ordered long q node some r row =
    let t = problem_in known.query known.tables join in
    let l : q < t.nodes = omega (arith, all_nodes known.query known.tables join ordered long, node) in
    let up = stored_parent known.query known.tables join q l in
    let above : r < raw_len tree.raw (t.parent q) = subst (λ u. r < raw_len tree.raw u) (sym up) row in
    (omega (arith, known.bounded.named_length q some l, above), λ b named. (known.bounded.named_is q r b some l above named).0)
