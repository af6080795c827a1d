-- The ranking of the root's group is the tree's.
use Rattle.std.proofs.Common.{◌≡◌, ℕ, zero, suc, ◌-◌, ◌*◌, ◌<◌, ◌≤◌, List, [], ◌∷◌, length, get_or, refl, sym, ap, subst, inl, inr, arith}
use Rattle.std.proofs.lemmas.Bool.{cases_lt}
use Rattle.std.proofs.lemmas.List.{get_or_past}
use Rattle.rankings.specs.Order.{ranked}
use Rattle.tdp_model.specs.KeyTuple.{KeyOf, key_below, key_add, key_none, slot_of}
use Rattle.tdp_model.specs.Regions.{completes, stands, place_of}
use Rattle.tdp_model.specs.TreeProblem.{rows_after, GroupHas, gather}
use Rattle.tdp_model.proofs.KeyTuples.{tuple_keys}
use Rattle.tdp_model.proofs.Begin.{IsRanking-same, ranking_of_root}
use Rattle.tdp_model.proofs.Bridge.{deeper, shallower}
use Rattle.tdp_core.specs.TreeView.{NodeView, node_at, parent, item, number, rows, members, group, group_count, rank, best}
use Rattle.tdp_core.specs.WellFormed.{IsFormed, IsTieFreeTree}
use Rattle.tdp_core.specs.Solutions.{IsTreeRanking}
use Rattle.tdp_core.proofs.TreeFacts.{tree_of, tie_free_of}
use Rattle.suffix_streams.specs.Rankings.{solution_keys, group_list}
use Rattle.suffix_streams.proofs.Rankings.{group_is_ranking}

module _ {R : Type 0} (d : ℕ) (key : R → KeyOf d 16) (t : List (NodeView R)) where
  -- # The root's group

  no_group : group_count t 0 ≡ 0 → (g : ℕ) → members t 0 g ≡ []
  no_group none g = get_or_past (node_at t 0).groups g [] (omega (arith, none))

  -- without solutions the ranking is empty
  pub root_list_empty : group_count t 0 ≡ 0 → group_list d key t 0 0 ≡ []
  unfolding group_list ranked
  root_list_empty none = ap (λ ms. ranked (key_below d 16) (tuple_keys d 16).order (gather (solution_keys d key t 0) ms)) (no_group none 0)

  nothing_stands : (r : ℕ) (xs : List ℕ) → xs ≡ [] → stands r xs ≡ 0
  unfolding stands place_of
  nothing_stands r [] e = refl
  nothing_stands r (x ∷ xs) e = let h : suc (length xs) ≡ 0 = ap length e in absurd (omega arith)

  none_solved : group_count t 0 ≡ 0 → 0 < length t → (s : List ℕ) → 0 < completes (rows_after (parent t) (group t)) (length t) [] s → ⊥
  unfolding completes
  none_solved none some s h = at (length t) s some h
    where
      at : (n : ℕ) (s : List ℕ) → 0 < n → 0 < completes (rows_after (parent t) (group t)) n [] s → ⊥
      at zero s l h = omega arith
      at (suc n) [] l h = omega arith
      at (suc n) (r ∷ s) l h =
          let z : stands r (rows_after (parent t) (group t) []) ≡ 0 = nothing_stands r (rows_after (parent t) (group t) []) (no_group none _) in
          let e : stands r (rows_after (parent t) (group t) []) * completes (rows_after (parent t) (group t)) n (r ∷ []) s ≡ 0 * completes (rows_after (parent t) (group t)) n (r ∷ []) s
          = ap (λ x. x * completes (rows_after (parent t) (group t)) n (r ∷ []) s) z in
          omega (arith, h, e)

  -- the ranking of the root's group is that of the tree's solutions
  pub root_ranks : IsFormed d key t → IsTieFreeTree t → IsTreeRanking t d key (group_list d key t 0 0)
  root_ranks formed free = elim (cases_lt 0 (group_count t 0)) [ inl live ↦ of_live live | inr dead ↦ of_dead (omega arith) ]
    where
      some : 1 ≤ length t
      some = formed.shaped.some_node

      of_live : 0 < group_count t 0 → IsTreeRanking t d key (group_list d key t 0 0)
      of_live live =
          ranking_of_root (key_below d 16) (key_add d 16) (key_none d 16) (tuple_keys d 16) (length t) (parent t) (rank t d key) (group t) (best t d key) (λ v r. r < rows t v) (tree_of d key t formed live)
          (item t) (number t) (slot_of d 16) (tie_free_of d key t formed free) (length t - 1) (length t) (group_list d key t 0 0) (omega (arith, some)) (omega arith)
          (IsRanking-same (key_below d 16) _ (GroupHas (key_add d 16) (key_none d 16) (length t) (parent t) (rank t d key) (group t) (suc (length t)) 0 0) (group_list d key t 0 0)
          (λ k h. (h.0, h.1, deeper (key_below d 16) (key_add d 16) (key_none d 16) (tuple_keys d 16) (length t) (parent t) (rank t d key) (group t) formed.shaped.parents_first (length t) 0 (get_or (members t 0 0) h.0 0) k (omega (arith, some)) (omega arith) h.2))
          (λ k h. (h.0, h.1, shallower (key_below d 16) (key_add d 16) (key_none d 16) (tuple_keys d 16) (length t) (parent t) (rank t d key) (group t) formed.shaped.parents_first (length t) 0 (get_or (members t 0 0) h.0 0) k (omega (arith, some)) (omega arith) h.2))
          (group_is_ranking d key t 0 0 (omega (arith, some))))

      of_dead : group_count t 0 ≡ 0 → IsTreeRanking t d key (group_list d key t 0 0)
      of_dead none = subst (λ ks. IsTreeRanking t d key ks) (sym (root_list_empty none)) (record {
        ascending = tt;
        sound = λ k h. absurd h;
        complete = λ k h. absurd (none_solved none (omega (arith, some)) h.0 h.1);
      })
