-- What a fresh enumeration holds: the ranking of the tree's solutions.
use Rattle.std.proofs.Common.{◌≡◌, ℕ, zero, suc, ◌+◌, ◌*◌, ◌<◌, ◌≤◌, List, [], ◌∷◌, ◌++◌, length, get_or, sym, ◌∙◌, subst, inl, inr, arith}
use Rattle.rankings.specs.Order.{IsRanking}
use Rattle.tdp_model.specs.KeyLaws.{IsKeys}
use Rattle.tdp_model.specs.Remains.{Remains}
use Rattle.tdp_model.specs.Regions.{completes, stands, is_empty, place_of}
use Rattle.tdp_model.specs.TreeProblem.{rows_after, rows_key, bound_of, IsTree, IsTieFree, GroupHas}
use Rattle.tdp_model.specs.Queue.{whole_region, IsQueue}
use Rattle.std.proofs.lemmas.Bool.{cases_lt}
use Rattle.tdp_model.proofs.Division.{stands_yes, stands_no}
use Rattle.tdp_model.proofs.TreeStaged.{bound_whole, tree_staged}
use Rattle.tdp_model.proofs.Ties.{solutions_apart, completes_length}
use Rattle.tdp_model.proofs.PartNext.{first_queue}
use Rattle.tdp_model.proofs.Bridge.{solution_of_root, root_of_solution}

small_times : (a b : ℕ) → a ≤ 1 → b ≤ 1 → a * b ≤ 1
small_times zero b h i = omega arith
small_times (suc zero) b h i = omega arith
small_times (suc (suc a)) b h i = absurd (omega arith)

stands_once : (r : ℕ) (xs : List ℕ) → stands r xs ≤ 1
stands_once r xs = elim (cases_lt (place_of r xs) (length xs)) [ inl l ↦ omega (arith, stands_yes r xs l) | inr g ↦ omega (arith, stands_no r xs g) ]

pub completes_once : (members : List ℕ → List ℕ) (n : ℕ) (pre t : List ℕ) → completes members n pre t ≤ 1
unfolding completes is_empty
completes_once members zero pre [] = omega arith
completes_once members zero pre (r ∷ rest) = omega arith
completes_once members (suc n) pre [] = omega arith
completes_once members (suc n) pre (r ∷ rest) = small_times _ _ (stands_once r (members pre)) (completes_once members n (pre ++ (r ∷ [])) rest)

-- rankings of sets with the same members
pub IsRanking-same : {K : Type 0} (Below : K → K → Type 0) (Has Other : K → Type 0) (ks : List K) → ((k : K) → Has k → Other k) → ((k : K) → Other k → Has k) → IsRanking K Below Has ks → IsRanking K Below Other ks
IsRanking-same Below Has Other ks to from r = record { ascending = r.ascending; sound = λ k h. to k (r.sound k h); complete = λ k h. r.complete k (from k h) }

module _ {K : Type 0} (Below : K → K → Type 0) (add : K → K → K) (none : K) (keys : IsKeys K Below add none)
    (m : ℕ) (parent : ℕ → ℕ) (rank : ℕ → ℕ → K) (group : ℕ → ℕ → List ℕ) (best : ℕ → ℕ → K) (IsRow : ℕ → ℕ → Type 0)
    (tree : IsTree K Below add none m parent rank group best IsRow)
    (item : ℕ → ℕ) (number : ℕ → ℕ → ℕ) (slot : ℕ → K → ℕ) (free : IsTieFree K add none m rank group item number slot) where
  -- some solution has the key
  abbrev pub SolutionHas : K → Type 0
  SolutionHas k = (t : List ℕ) × (0 < completes (rows_after parent group) m [] t) × (rows_key add none rank t ≡ k)

  -- The ranking of the solutions is that of the subtree solutions of the root's group.
  pub ranking_of_root : (n d : ℕ) (ks : List K) → suc n ≡ m → m ≤ d → IsRanking K Below (GroupHas add none m parent rank group (suc d) 0 0) ks → IsRanking K Below SolutionHas ks
  ranking_of_root n d ks e deep r =
      IsRanking-same Below (GroupHas add none m parent rank group (suc d) 0 0) SolutionHas ks
      (λ k h. subst (λ z. (t : List ℕ) × (0 < completes (rows_after parent group) z [] t) × (rows_key add none rank t ≡ k)) e
      (solution_of_root Below add none keys m parent rank group tree.parents_first d deep n k e h))
      (λ k h.
      let t : List ℕ = h.0 in
      let p : 0 < completes (rows_after parent group) (suc n) [] t = subst (λ z. 0 < completes (rows_after parent group) z [] t) (sym e) h.1 in
      subst (λ z. GroupHas add none m parent rank group (suc d) 0 0 z) h.2 (root_of_solution Below add none keys m parent rank group tree.parents_first d deep n t e p))
      r

  whole : (t : List ℕ) → 0 < completes (rows_after parent group) m [] t → bound_of add none m parent rank group best t ≡ rows_key add none rank t
  whole t h = bound_whole Below add none keys m parent rank group best IsRow tree t (completes_length (rows_after parent group) m [] t h)

  -- The solutions with the ranking of their keys are what a fresh enumeration holds.
  pub solutions_remain : (ks : List K) → IsRanking K Below SolutionHas ks → Remains (List ℕ) K Below (bound_of add none m parent rank group best) (completes (rows_after parent group) m []) ks
  solutions_remain ks r = record {
    once = λ t. completes_once (rows_after parent group) m [] t;
    apart = λ t s a b e. solutions_apart add none m parent rank group item number slot free t s a b (sym (whole t a) ∙ e ∙ whole s b);
    ascending = r.ascending;
    complete = λ t h. r.complete _ (t, h, sym (whole t h));
    sound = λ k h. let s : SolutionHas k = r.sound k h in (s.0, s.1, whole s.0 s.1 ∙ s.2);
  }

  -- The queue of `Part::new`: one candidate with every solution.
  pub part_begins : (n : ℕ) (ks : List K) → suc n ≡ m → IsRanking K Below SolutionHas ks
      → IsQueue K Below (rows_after parent group) (bound_of add none m parent rank group best) (λ n pre. (n + length pre ≡ m) × ((q : ℕ) → q < length pre → IsRow q (get_or pre q 0))) (whole_region n ∷ []) ks
  part_begins n ks e r =
      first_queue Below keys.order (rows_after parent group) (bound_of add none m parent rank group best) _ (tree_staged Below add none keys m parent rank group best IsRow tree) n ks
      (omega arith, λ q l. absurd (omega arith))
      (subst (λ z. Remains (List ℕ) K Below (bound_of add none m parent rank group best) (completes (rows_after parent group) z []) ks) (sym e) (solutions_remain ks r))
