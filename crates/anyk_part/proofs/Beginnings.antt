-- The first candidate of a tree, and the ranking that it holds.
use Rattle.std.proofs.Common.{◌≡◌, ℕ, zero, suc, ◌-◌, ◌<◌, ◌≤◌, cond, nat_eq, nat_lt, None, List, [], ◌∷◌, length, get_or, refl, sym, ap, ◌∙◌, subst, arith}
use Rattle.std.specs.List.{All}
use Rattle.std.specs.List.Sorted.{IsPermutation}
use Rattle.std.proofs.lemmas.List.{get_or_past}
use Rattle.std.proofs.lemmas.List.Elements.{All-head, All-cons, All-nil}
use Rattle.std.proofs.lemmas.List.Sorted.{All-permutation, length_permutation}
use Rattle.std.proofs.lemmas.Bool.Decides.{nat_tests}
use Rattle.stream_store.specs.declared.linked.Linked.{Linked}
use Rattle.take2_heap.specs.declared.entry.Entry.{Entry}
use Rattle.rankings.specs.Order.{ranked}
use Rattle.tdp_model.specs.KeyTuple.{KeyOf, key_below, key_add, key_none, slot_of}
use Rattle.tdp_model.specs.Remains.{Remains}
use Rattle.tdp_model.specs.Regions.{in_regions, opening, completes}
use Rattle.tdp_model.proofs.Division.{times_pos, stands_place}
use Rattle.tdp_model.specs.Queue.{whole_region, IsQueue}
use Rattle.tdp_model.specs.TreeProblem.{sum_from, open_part}
use Rattle.tdp_model.proofs.KeyTuples.{tuple_keys}
use Rattle.tdp_model.proofs.Sums.{none_add}
use Rattle.tdp_model.proofs.TreeStaged.{bound_parts, other_of}
use Rattle.tdp_model.proofs.Begin.{part_begins, ranking_of_root}
use Rattle.tdp_model.proofs.Enumeration.{group_ranking, group_keys}
use Rattle.tdp_core.specs.TreeView.{NodeView, node_at, parent, rows, members, group_count, group, rank, best, item, number}
use Rattle.tdp_core.specs.WellFormed.{IsFormed, IsTieFreeTree}
use Rattle.tdp_core.specs.Solutions.{IsTreeRanking}
use Rattle.tdp_core.proofs.TreeFacts.{tie_free_of, member_is_row}
use Rattle.anyk_part.specs.declared.candidate.Link.{Link}
use Rattle.anyk_part.specs.declared.candidate.Candidate.{Candidate}
use Rattle.anyk_part.specs.Chains.{chain, IsChain}
use Rattle.anyk_part.specs.RemainingSolutions.{held_solutions}
use Rattle.anyk_part.specs.Regions.{followers, Reached, least, regions_of, rest_keys, IsEntry, IsPart}
use Rattle.anyk_part.proofs.HeldSolutions.{remains_is}
use Rattle.anyk_part.proofs.LiveTrees.{tree, staged}

-- the entry of the region with every solution
abbrev pub first_entry : {R : Type 0} → R → Entry R Candidate
first_entry r = record { rank = r; tag = record { position = 0; place = 0; before = None } }

module _ {R : Type 0} (d : ℕ) (key : R → KeyOf d 16) (t : List (NodeView R)) (formed : IsFormed d key t) (live : 0 < group_count t 0) where
  abbrev pub K : Type 0
  K = KeyOf d 16

  -- the ranking of the tree's solutions
  pub tree_ranking : IsTieFreeTree t → (ks : List K) × IsTreeRanking t d key ks
  tree_ranking apart =
      let some = formed.shaped.some_node in
      let size : suc (length t - 1) ≡ length t = omega (arith, some) in (
        ranked (key_below d 16) (tuple_keys d 16).order (group_keys (key_below d 16) (key_add d 16) (key_none d 16) (tuple_keys d 16) (length t) (parent t) (rank t d key) (group t) (suc (length t)) 0 0),
        ranking_of_root (key_below d 16) (key_add d 16) (key_none d 16) (tuple_keys d 16) (length t) (parent t) (rank t d key) (group t) (best t d key) (λ v r. r < rows t v) (tree d key t formed live)
            (item t) (number t) (slot_of d 16) (tie_free_of d key t formed apart) (length t - 1) (length t) _ size (omega arith)
            (group_ranking (key_below d 16) (key_add d 16) (key_none d 16) (tuple_keys d 16) (length t) (parent t) (rank t d key) (group t) (suc (length t)) 0 0 (omega (arith, some))),
      )

  nothing_open : (n q : ℕ) → 1 ≤ q → sum_from (key_add d 16) (key_none d 16) (open_part (key_add d 16) (key_none d 16) (length t) (parent t) (rank t d key) (group t) (best t d key) 0 []) n q ≡ key_none d 16
  unfolding sum_from open_part
  nothing_open zero q l = refl
  nothing_open (suc n) q l =
      ap (λ z. key_add d 16 z (sum_from (key_add d 16) (key_none d 16) (open_part (key_add d 16) (key_none d 16) (length t) (parent t) (rank t d key) (group t) (best t d key) 0 []) n (suc q)))
      (closed q (parent t q) _ _ (key_none d 16) l)
      ∙ none_add (key_below d 16) (key_add d 16) (key_none d 16) (tuple_keys d 16) _
      ∙ nothing_open n (suc q) (omega arith)
    where
      closed : (q p : ℕ) (a b c : K) → 1 ≤ q → cond (nat_eq q 0) a (cond (nat_lt p 0) b c) ≡ c
      closed q p a b c l = grind (arith, nat_tests)

  -- the least key of what begins with a row of the root is that row's best
  pub least_first : (r : ℕ) → r < rows t 0 → least d key t (r ∷ []) ≡ best t d key 0 r
  unfolding other_of sum_from
  least_first r l =
      let some = formed.shaped.some_node in
      bound_parts (key_below d 16) (key_add d 16) (key_none d 16) (tuple_keys d 16) (length t) (parent t) (rank t d key) (group t) (best t d key) (λ v r. r < rows t v) (tree d key t formed live) (length t - 1) [] r (omega (arith, some)) l
      ∙ ap (λ z. key_add d 16 z (best t d key 0 r))
      (none_add (key_below d 16) (key_add d 16) (key_none d 16) (tuple_keys d 16) _ ∙ nothing_open (length t - 1) 1 (omega arith))
      ∙ none_add (key_below d 16) (key_add d 16) (key_none d 16) (tuple_keys d 16) (best t d key 0 r)

  pub first_is : (links : List (Linked Link)) (r : R) (row : ℕ) → row ≡ get_or (members t 0 0) 0 0 → key r ≡ best t d key 0 row → IsEntry d key t links (first_entry r)
  unfolding chain IsChain opening
  first_is links r row e k =
      let some = formed.shaped.some_node in
      let reach : Reached t (suc (length t - 1)) [] = (omega (arith, some), λ q l. absurd (omega arith)) in
      let full : 0 < length (followers t []) = (staged d key t formed live).inhabited (length t - 1) [] reach in
      record {
        position = some;
        chained = refl;
        reached = (omega arith, λ q l. absurd (omega arith));
        place = full;
        ranked = k ∙ ap (λ z. best t d key 0 z) e ∙ sym (least_first (get_or (members t 0 0) 0 0) (member_is_row d key t formed 0 0 0 some full));
      }

  -- The queue of the first candidate, and that what it holds is the tree's ranking.
  pub part_first : IsTieFreeTree t → (links : List (Linked Link)) (r : R) (row : ℕ) → row ≡ get_or (members t 0 0) 0 0 → key r ≡ best t d key 0 row
      → IsPart d key t links (first_entry r ∷ []) 0
      × IsTreeRanking t d key (rest_keys d key t (regions_of links (length t) (first_entry r ∷ [])))
  unfolding chain
  part_first apart links r row e k =
      let size : suc (length t - 1) ≡ length t = omega (arith, formed.shaped.some_node) in
      let whole : (ks : List K) × IsTreeRanking t d key ks = tree_ranking apart in
      let queue : IsQueue K (key_below d 16) (followers t) (least d key t) (Reached t) (whole_region (length t - 1) ∷ []) whole.0 =
      part_begins (key_below d 16) (key_add d 16) (key_none d 16) (tuple_keys d 16) (length t) (parent t) (rank t d key) (group t) (best t d key) (λ v r. r < rows t v) (tree d key t formed live)
      (item t) (number t) (slot_of d 16) (tie_free_of d key t formed apart) (length t - 1) whole.0 size whole.1 in
      let is : whole.0 ≡ rest_keys d key t (whole_region (length t - 1) ∷ []) = remains_is (followers t) (key_below d 16) (tuple_keys d 16).order (least d key t) (whole_region (length t - 1) ∷ []) whole.0 queue.remains in (
        record {
          formed = formed;
          tie_free = apart;
          live = λ _. live;
          each = All-cons (IsEntry d key t links) (first_entry r) [] (first_is links r row e k) (All-nil (IsEntry d key t links));
          remains = subst (λ ks. Remains (List ℕ) K (key_below d 16) (least d key t) (in_regions (followers t) (whole_region (length t - 1) ∷ [])) ks) is queue.remains;
          few = omega arith;
        },
        subst (λ ks. IsTreeRanking t d key ks) is whole.1,
      )

-- A list that is a permutation of one element has that element alone.
pub one_alone : {X : Type 0} (e : X) (xs : List X) → IsPermutation (e ∷ []) xs → xs ≡ e ∷ []
one_alone {X} e xs p =
    let long : length xs ≡ 1 = omega (arith, length_permutation (e ∷ []) xs p) in
    at xs long (All-permutation (λ x. x ≡ e) (e ∷ []) xs p (All-cons (λ x. x ≡ e) e [] refl (All-nil (λ x. x ≡ e))))
  where
    at : (ys : List X) → length ys ≡ 1 → All (λ x. x ≡ e) ys → ys ≡ e ∷ []
    at [] l a = absurd (omega arith)
    at (y ∷ []) l a = ap (λ z. z ∷ []) (All-head (λ x. x ≡ e) y [] a)
    at (y ∷ (z ∷ zs)) l a = absurd (omega arith)

-- no list completes where nothing may come first
none_completes : (members : List ℕ → List ℕ) (m : ℕ) (s : List ℕ) → 1 ≤ m → length (members []) ≤ 0 → 0 < completes members m [] s → ⊥
unfolding completes
none_completes members zero s l dead p = omega (arith, l)
none_completes members (suc m) [] l dead p = omega (arith, p)
none_completes members (suc m) (r ∷ rest) l dead p =
    omega (arith, dead, stands_place r (members []) (times_pos _ _ p).0)

module _ {R : Type 0} (d : ℕ) (key : R → KeyOf d 16) (t : List (NodeView R)) (formed : IsFormed d key t) (dead : group_count t 0 ≤ 0) where
  nothing_left : rest_keys d key t [] ≡ []
  unfolding held_solutions ranked
  nothing_left = refl

  -- the ranking of a tree that is not live
  no_solution : IsTreeRanking t d key []
  no_solution = record {
    ascending = tt;
    sound = λ k m. absurd m;
    complete = λ k h. absurd (none_completes (followers t) (length t) h.0 formed.shaped.some_node (omega (arith, ap (λ ms. length ms) (get_or_past (node_at t 0).groups 0 [] dead))) h.1);
  }

  no_remains : Remains (List ℕ) (KeyOf d 16) (key_below d 16) (least d key t) (in_regions (followers t) []) []
  unfolding in_regions
  no_remains = record {
    once = λ s. omega arith;
    apart = λ s u p q e. absurd (omega arith);
    ascending = tt;
    complete = λ s p. absurd (omega arith);
    sound = λ k m. absurd m;
  }

  -- The empty queue, over a tree that is not live.
  pub part_none : IsTieFreeTree t → (links : List (Linked Link)) → IsPart d key t links [] 0 × IsTreeRanking t d key (rest_keys d key t [])
  part_none apart links = (
    record {
      formed = formed;
      tie_free = apart;
      live = λ p. absurd (omega arith);
      each = All-nil (IsEntry d key t links);
      remains = subst (λ ks. Remains (List ℕ) (KeyOf d 16) (key_below d 16) (least d key t) (in_regions (followers t) []) ks) (sym nothing_left) no_remains;
      few = omega arith;
    },
    subst (λ ks. IsTreeRanking t d key ks) (sym nothing_left) no_solution,
  )
