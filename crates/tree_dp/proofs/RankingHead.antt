-- The head of the ranking of a tree's solutions is the best of the row at place 0 of the root's group.
use Rattle.std.proofs.Common.{◌≡◌, ℕ, suc, ◌-◌, ◌<◌, Some, List, [], ◌∷◌, ◌++◌, length, get_or, slice_get, refl, sym, ap, subst, inl, inr, arith}
use Rattle.rankings.proofs.Members.{below_member}
use Rattle.tdp_model.specs.Remains.{AtMost}
use Rattle.tdp_model.specs.Regions.{completes, stands, place_of}
use Rattle.tdp_model.specs.KeyTuple.{KeyOf, key_below, key_add, key_none}
use Rattle.tdp_model.specs.TreeProblem.{rows_after, rows_key, SolutionHas, GroupHas}
use Rattle.tdp_model.proofs.Bridge.{solution_of_root, root_of_solution}
use Rattle.tdp_model.proofs.Division.{stands_place, times_pos}
use Rattle.tdp_model.proofs.KeyTuples.{tuple_keys}
use Rattle.tdp_model.proofs.Keys.{at_most_trans}
use Rattle.tdp_model.proofs.Subtrees.{climbs_ordered, climbs_all}
use Rattle.tdp_core.specs.AnswerView.{answer_of, answers_of}
use Rattle.tdp_core.specs.TreeView.{NodeView, node_at, parent, group_count, members, group, rank, best}
use Rattle.tdp_core.specs.Solutions.{IsTreeRanking}
use Rattle.tdp_core.specs.WellFormed.{IsFormed}
use Rattle.tdp_core.proofs.TreeFacts.{member_is_row, best_had, best_least}

-- nothing is chosen from an empty first group
none_chosen : (members : List ℕ → List ℕ) (n : ℕ) (s : List ℕ) → members [] ≡ [] → 0 < completes members (suc n) [] s → ⊥
unfolding completes
none_chosen members n [] empty h = omega arith
none_chosen members n (x ∷ rest) empty h =
    let both : (0 < stands x (members [])) × (0 < completes members n ([] ++ (x ∷ [])) rest) = times_pos _ _ h in
    let place : place_of x (members []) < length (members []) = stands_place x (members []) both.0 in
    omega (arith, place, ap length empty)

module _ {R : Type 0} (d : ℕ) (key : R → KeyOf d 16) (t : List (NodeView R)) (formed : IsFormed d key t) where
  abbrev pub HasSolution : KeyOf d 16 → Type 0
  HasSolution k = SolutionHas (key_add d 16) (key_none d 16) (length t) (parent t) (rank t d key) (group t) k

  abbrev pub RootHas : KeyOf d 16 → Type 0
  RootHas k = GroupHas (key_add d 16) (key_none d 16) (length t) (parent t) (rank t d key) (group t) (suc (length t)) 0 0 k

  some_node : 0 < length t
  some_node = omega (arith, formed.shaped.some_node)

  pub root_has : (k : KeyOf d 16) → HasSolution k → RootHas k
  root_has k h =
      let one : suc (length t - 1) ≡ length t = omega (arith, some_node) in
      let found : 0 < completes (rows_after (parent t) (group t)) (suc (length t - 1)) [] h.0 = subst (λ n. 0 < completes (rows_after (parent t) (group t)) n [] h.0) (sym one) h.1 in
      subst RootHas h.2
      (root_of_solution (key_below d 16) (key_add d 16) (key_none d 16) (tuple_keys d 16) (length t) (parent t) (rank t d key) (group t) formed.shaped.parents_first (length t) (omega arith) (length t - 1) h.0 one found)

  pub has_solution : (k : KeyOf d 16) → RootHas k → HasSolution k
  has_solution k h =
      let one : suc (length t - 1) ≡ length t = omega (arith, some_node) in
      subst (λ n. (s : List ℕ) × (0 < completes (rows_after (parent t) (group t)) n [] s) × (rows_key (key_add d 16) (key_none d 16) (rank t d key) s ≡ k)) one
      (solution_of_root (key_below d 16) (key_add d 16) (key_none d 16) (tuple_keys d 16) (length t) (parent t) (rank t d key) (group t) formed.shaped.parents_first (length t) (omega arith) (length t - 1) k one h)

  -- a tree that is not live has no solution
  pub none_ranked : group_count t 0 ≡ 0 → (ks : List (KeyOf d 16)) → IsTreeRanking t d key ks → ks ≡ []
  none_ranked dead [] ranking = refl
  none_ranked dead (k ∷ ks) ranking =
      let one : suc (length t - 1) ≡ length t = omega (arith, some_node) in
      let s : HasSolution k = ranking.sound k (inl refl) in
      let empty : members t 0 0 ≡ [] = no_groups (node_at t 0).groups dead in
      absurd (none_chosen (rows_after (parent t) (group t)) (length t - 1) s.0 empty (subst (λ n. 0 < completes (rows_after (parent t) (group t)) n [] s.0) (sym one) s.1))
    where
      no_groups : (gs : List (List ℕ)) → length gs ≡ 0 → get_or gs 0 [] ≡ []
      no_groups [] e = refl
      no_groups (x ∷ gs) e = absurd (omega arith)

  -- the best of the row at place 0 of the root's group
  abbrev pub top : KeyOf d 16
  top = best t d key 0 (get_or (members t 0 0) 0 0)

  module _ (live : 0 < group_count t 0) where
    top_had : RootHas top
    top_had =
        let full : 0 < length (members t 0 0) = formed.inhabited 0 0 some_node live in
        (0, full, best_had d key t formed (suc (length t)) 0 (get_or (members t 0 0) 0 0) (omega arith) some_node (member_is_row d key t formed 0 0 0 some_node full))

    top_least : (k : KeyOf d 16) → RootHas k → AtMost (key_below d 16) top k
    top_least k h =
        at_most_trans (key_below d 16) (tuple_keys d 16).order _ _ _
        (climbs_ordered (λ x y. AtMost (key_below d 16) (best t d key 0 (get_or (members t 0 0) x 0)) (best t d key 0 (get_or (members t 0 0) y 0))) (length (members t 0 0))
        (λ x. inr refl) (λ x y z p s. at_most_trans (key_below d 16) (tuple_keys d 16).order _ _ _ p s) (λ x p s. formed.heaps 0 0 x some_node p s) h.0 h.0 0 h.1 (omega (arith, climbs_all h.0 h.0 (omega arith))))
        (best_least d key t formed (suc (length t)) 0 (get_or (members t 0 0) h.0 0) k some_node (member_is_row d key t formed 0 0 h.0 some_node h.1) h.2)

    top_first : (ks : List (KeyOf d 16)) → IsTreeRanking t d key ks → (rest : List (KeyOf d 16)) × (ks ≡ top ∷ rest)
    top_first [] ranking = absurd (ranking.complete top (has_solution top top_had))
    top_first (k ∷ ks) ranking = elim (ranking.complete top (has_solution top top_had)) [
      | inl e ↦ (ks, ap (λ z. z ∷ ks) (sym e))
      | inr later ↦
          let below : key_below d 16 k top = below_member (key_below d 16) k top ks ranking.ascending.0 later in
          let order = (tuple_keys d 16).order in
          elim (top_least k (root_has k (ranking.sound k (inl refl)))) [
            | inl under ↦ absurd (order.irreflexive k (order.transitive k top k below under))
            | inr e ↦ absurd (order.irreflexive k (subst (key_below d 16 k) e below))
          ]
    ]

    -- it begins the ranking
    pub top_ranked : (ks : List (KeyOf d 16)) → IsTreeRanking t d key ks → slice_get (answers_of d ks) 0 ≡ Some (answer_of d top)
    top_ranked ks ranking = let f = top_first ks ranking in ap (λ xs. slice_get (answers_of d xs) 0) f.1
