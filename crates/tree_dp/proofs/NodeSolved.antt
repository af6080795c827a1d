-- One more node gets its least keys and the order in its groups.
use Rattle.std.proofs.Common.{◌≡◌, ◌≢◌, ℕ, suc, ◌+◌, ◌-◌, ◌/◌, ◌<◌, ◌≤◌, cond, nat_eq, List, [], length, map, get_or, sym, ap, subst, ◌∙◌, inl, inr, arith}
use Rattle.std.proofs.lemmas.Bool.{cases_eq}
use Rattle.tdp_model.specs.KeyTuple.{KeyOf, key_below, key_add, key_none}
use Rattle.tdp_model.specs.Remains.{AtMost}
use Rattle.tdp_model.specs.TreeProblem.{sum_from, kid_part}
use Rattle.tdp_model.proofs.KeyTuples.{tuple_keys}
use Rattle.tdp_model.proofs.Sums.{sum_same}
use Rattle.tdp_core.specs.TreeView.{NodeView, node_at, parent, rows, members, group, group_number, rank, best}
use Rattle.tree_dp.specs.Progress.{IsSolvedFrom, by_children}
use Rattle.tree_dp.specs.SolvedTrees.{IsReordered}
use Rattle.tree_dp.proofs.ReorderedNodes.{parent_same, rows_same, rank_same, group_number_same}

module _ {R : Type 0} (d : ℕ) (key : R → KeyOf d 16) (t u : List (NodeView R)) (v : ℕ) (count : length u ≡ length t) (nodes : (w : ℕ) → IsReordered (node_at t w) (node_at u w))
    (others : (w : ℕ) → w ≢ v → node_at u w ≡ node_at t w) where
  group_later : (q r : ℕ) → q ≢ v → group u q r ≡ group t q r
  group_later q r other = ap (members u q) (group_number_same t u nodes q r) ∙ ap (λ n. get_or n.groups (group_number t q r) []) (others q other)

  best_later : (q r : ℕ) → q ≢ v → best u d key q r ≡ best t d key q r
  best_later q r other = ap (λ n. get_or (map key n.best) r (key_none d 16)) (others q other)

  -- the rule for a row gives the same, where only its own node or an earlier one is put into another order
  by_children_kept : (w r : ℕ) → v ≤ w → by_children d key t w r ≡ by_children d key u w r
  unfolding kid_part
  by_children_kept w r l =
      ap (λ k. key_add d 16 (k w r) (sum_from (key_add d 16) (key_none d 16) (kid_part (key_add d 16) (key_none d 16) (length t) (parent t) (rank t d key) (group t) (best t d key) w r) (length t - suc w) (suc w))) (sym (rank_same t u nodes d key))
      ∙ ap (key_add d 16 (rank u d key w r))
      (sum_same (key_below d 16) (key_add d 16) (key_none d 16) (tuple_keys d 16)
      (kid_part (key_add d 16) (key_none d 16) (length t) (parent t) (rank t d key) (group t) (best t d key) w r)
      (kid_part (key_add d 16) (key_none d 16) (length u) (parent u) (rank u d key) (group u) (best u d key) w r)
      (length t - suc w) (suc w)
      (λ q a b.
      let other : q ≢ v = λ e. omega arith in
      ap (λ p. cond (nat_eq (p q) w) (best t d key q (get_or (group t q r) 0 0)) (key_none d 16)) (sym (parent_same t u nodes))
      ∙ ap (λ xs. cond (nat_eq (parent u q) w) (best t d key q (get_or xs 0 0)) (key_none d 16)) (sym (group_later q r other))
      ∙ ap (λ k. cond (nat_eq (parent u q) w) k (key_none d 16)) (sym (best_later q (get_or (group u q r) 0 0) other)))
      ∙ ap (λ m. sum_from (key_add d 16) (key_none d 16) (kid_part (key_add d 16) (key_none d 16) (length u) (parent u) (rank u d key) (group u) (best u d key) w r) (m - suc w) (suc w)) (sym count))

  HeapsOver : NodeView R → Type 0
  HeapsOver n = (g i : ℕ) → 0 < i → i < length (get_or n.groups g [])
      → AtMost (key_below d 16) (get_or (map key n.best) (get_or (get_or n.groups g []) ((i - 1) / 2) 0) (key_none d 16)) (get_or (map key n.best) (get_or (get_or n.groups g []) i 0) (key_none d 16))

  pub solved_next : IsSolvedFrom d key t (v + 1) → length (node_at u v).best ≡ rows t v → ((r : ℕ) → r < rows t v → best u d key v r ≡ by_children d key t v r)
      → ((g i : ℕ) → 0 < i → i < length (members u v g) → AtMost (key_below d 16) (best u d key v (get_or (members u v g) ((i - 1) / 2) 0)) (best u d key v (get_or (members u v g) i 0)))
      → IsSolvedFrom d key u v
  unfolding HeapsOver
  solved_next solved all bests heaps = record {
    all_best = λ w l h. elim (cases_eq w v) [
      | inl e ↦ subst (λ k. length (node_at u k).best ≡ rows u k) (sym e) (all ∙ ap (λ f. f v) (sym (rows_same t u nodes)))
      | inr other ↦ ap (λ n. length n.best) (others w other) ∙ solved.all_best w (omega arith) (omega (arith, count)) ∙ ap (λ f. f w) (sym (rows_same t u nodes))
    ];
    bests = λ w r l h row.
        let in_row : r < rows t w = omega (arith, ap (λ f. f w) (rows_same t u nodes)) in
        elim (cases_eq w v) [
          | inl e ↦ subst (λ k. best u d key k r ≡ by_children d key t k r) (sym e) (bests r (subst (λ k. r < rows t k) e in_row)) ∙ by_children_kept w r l
          | inr other ↦ best_later w r other ∙ solved.bests w r (omega arith) (omega (arith, count)) in_row ∙ by_children_kept w r l
        ];
    heaps = λ w g i l h some k. elim (cases_eq w v) [
      | inl e ↦
          let at : HeapsOver (node_at u v) = heaps in
          let is : HeapsOver (node_at u w) = subst (λ x. HeapsOver (node_at u x)) (sym e) at in
          is g i some k
      | inr other ↦
          let at : HeapsOver (node_at t w) = λ g i some k. solved.heaps w g i (omega arith) (omega (arith, count)) some k in
          let is : HeapsOver (node_at u w) = subst HeapsOver (sym (others w other)) at in
          is g i some k
    ];
  }
