-- The lists of rankings are the rankings of a tree's groups and of its rows with their first children.
use Rattle.std.proofs.Common.{◌≡◌, ◌≢◌, ℕ, zero, suc, ◌+◌, ◌-◌, ◌<◌, ◌≤◌, nat_eq, List, [], ◌∷◌, length, get_or, refl, sym, ap, ◌∙◌, subst, inl, inr, arith}
use Rattle.std.proofs.lemmas.Bool.{cond-false, ne_eqb}
use Rattle.rankings.specs.Order.{IsMember, IsAscending, IsRanking}
use Rattle.rank_key.specs.Keys.{KeyFits}
use Rattle.tdp_model.specs.KeyTuple.{KeyOf, key_below, key_add, key_none, slot_of}
use Rattle.tdp_model.specs.Remains.{Remains, total}
use Rattle.tdp_model.specs.Product.{Pair, pair_key, stands_for}
use Rattle.tdp_model.specs.TreeProblem.{GroupHas, PartHas, gather}
use Rattle.tdp_model.proofs.KeyTuples.{tuple_keys}
use Rattle.rankings.proofs.Members.{get_member}
use Rattle.tdp_model.proofs.Begin.{IsRanking-same}
use Rattle.rankings.proofs.Sorting.{ranked_is_ranking}
use Rattle.tdp_model.proofs.Enumeration.{part_listed, listed_part, row_listed, listed_row, gather_member, member_gather}
use Rattle.tdp_model.proofs.Bridge.{deeper, shallower}
use Rattle.tdp_model.proofs.Parts.{part_first, part_first_only, part_skip, part_skipped, part_join, row_of_part, part_of_row}
use Rattle.tdp_model.proofs.RowStreams.{product_begins}
use Rattle.tdp_core.specs.TreeView.{NodeView, kids_below, parent, item, number, rows, members, group, group_count, group_named, group_number, child_count, rank, best}
use Rattle.tdp_core.specs.WellFormed.{IsFormed, IsTieFreeTree}
use Rattle.tdp_core.proofs.TreeFacts.{tie_free_of, part_key_fits, subtree_key_fits, best_had, member_is_row}
use Rattle.suffix_streams.specs.Rankings.{child, part_end, RowSolution, PartSolution, GroupSolution, solution_keys, part_list, group_list}
use Rattle.suffix_streams.proofs.Children.{IsChild, child_is, none_between, none_between_two, none_after, none_at_all, later_child}

pub some_member : {K : Type 0} (k : K) (ks : List K) → IsMember k ks → 0 < length ks
some_member k [] h = absurd h
some_member k (x ∷ ks) h = omega arith

module _ {R : Type 0} (d : ℕ) (key : R → KeyOf d 16) (t : List (NodeView R)) where
  listed_kids : (q r : ℕ) (x : KeyOf d 16) → q < length t → IsMember x (gather (solution_keys d key t q) (group t q r))
      → GroupHas (key_add d 16) (key_none d 16) (length t) (parent t) (rank t d key) (group t) (length t) q r x
  listed_kids q r x l g =
      let s : (i : ℕ) × (i < length (group t q r)) × IsMember x (solution_keys d key t q (get_or (group t q r) i 0)) = member_gather (solution_keys d key t q) x (group t q r) g in
      (s.0, s.1, listed_row (key_below d 16) (key_add d 16) (key_none d 16) (tuple_keys d 16) (length t) (parent t) (rank t d key) (group t) (length t) q (get_or (group t q r) s.0 0) x l s.2)

  kids_listed : (q r : ℕ) (x : KeyOf d 16) → q < length t → GroupHas (key_add d 16) (key_none d 16) (length t) (parent t) (rank t d key) (group t) (length t) q r x
      → IsMember x (gather (solution_keys d key t q) (group t q r))
  kids_listed q r x l g =
      gather_member (solution_keys d key t q) x (group t q r) g.0 g.1
      (row_listed (key_below d 16) (key_add d 16) (key_none d 16) (tuple_keys d 16) (length t) (parent t) (rank t d key) (group t) (length t) q (get_or (group t q r) g.0 0) x l g.2)

  pub part_is_ranking : (v r c : ℕ) → suc v + part_end t v c ≤ length t → IsRanking (KeyOf d 16) (key_below d 16) (PartSolution d key t v r c) (part_list d key t v r c)
  unfolding part_list
  part_is_ranking v r c within =
      IsRanking-same (key_below d 16) _ (PartSolution d key t v r c) (part_list d key t v r c)
      (λ k h. listed_part (key_below d 16) (key_add d 16) (key_none d 16) (tuple_keys d 16) (length t) (parent t) (rank t d key) (group t) (length t) v r (part_end t v c) (λ q. gather (solution_keys d key t q) (group t q r)) k
      (λ q x a b g. listed_kids q r x (omega arith) g) h)
      (λ k h. part_listed (key_below d 16) (key_add d 16) (key_none d 16) (tuple_keys d 16) (length t) (parent t) (rank t d key) (group t) (length t) v r (part_end t v c) (λ q. gather (solution_keys d key t q) (group t q r)) k
      (λ q x a b g. kids_listed q r x (omega arith) g) h)
      (ranked_is_ranking (key_below d 16) (tuple_keys d 16).order _)

  pub group_is_ranking : (q g : ℕ) → q < length t → IsRanking (KeyOf d 16) (key_below d 16) (GroupSolution d key t q g) (group_list d key t q g)
  unfolding group_list
  group_is_ranking q g l =
      IsRanking-same (key_below d 16) _ (GroupSolution d key t q g) (group_list d key t q g)
      (λ k h.
      let s : (i : ℕ) × (i < length (members t q g)) × IsMember k (solution_keys d key t q (get_or (members t q g) i 0)) = member_gather (solution_keys d key t q) k (members t q g) h in
      (s.0, s.1, listed_row (key_below d 16) (key_add d 16) (key_none d 16) (tuple_keys d 16) (length t) (parent t) (rank t d key) (group t) (length t) q (get_or (members t q g) s.0 0) k l s.2))
      (λ k h. gather_member (solution_keys d key t q) k (members t q g) h.0 h.1
      (row_listed (key_below d 16) (key_add d 16) (key_none d 16) (tuple_keys d 16) (length t) (parent t) (rank t d key) (group t) (length t) q (get_or (members t q g) h.0 0) k l h.2))
      (ranked_is_ranking (key_below d 16) (tuple_keys d 16).order _)

  pub part_ascends : (v r c : ℕ) → IsAscending (key_below d 16) (part_list d key t v r c)
  unfolding part_list
  part_ascends v r c = (ranked_is_ranking (key_below d 16) (tuple_keys d 16).order _).ascending

  pub group_ascends : (q g : ℕ) → IsAscending (key_below d 16) (group_list d key t q g)
  unfolding group_list
  group_ascends q g = (ranked_is_ranking (key_below d 16) (tuple_keys d 16).order _).ascending

  -- nodes that are not children add nothing
  widen_by : (e v r a : ℕ) (k : KeyOf d 16) → ((q : ℕ) → suc v + a ≤ q → q < suc v + (e + a) → parent t q ≢ v)
      → PartHas (key_add d 16) (key_none d 16) (length t) (parent t) (rank t d key) (group t) (length t) v r a k
      → PartHas (key_add d 16) (key_none d 16) (length t) (parent t) (rank t d key) (group t) (length t) v r (e + a) k
  widen_by zero v r a k none h =
      let same : a ≡ 0 + a = omega arith in
      subst (λ n. PartHas (key_add d 16) (key_none d 16) (length t) (parent t) (rank t d key) (group t) (length t) v r n k) same h
  widen_by (suc e) v r a k none h =
      let same : suc (e + a) ≡ suc e + a = omega arith in
      subst (λ n. PartHas (key_add d 16) (key_none d 16) (length t) (parent t) (rank t d key) (group t) (length t) v r n k) same
      (part_skip (key_below d 16) (key_add d 16) (key_none d 16) (tuple_keys d 16) (length t) (parent t) (rank t d key) (group t) (length t) v r (e + a) (suc v + (e + a)) k refl
      (none (suc v + (e + a)) (omega arith) (omega arith)) (widen_by e v r a k (λ q x y. none q x (omega arith)) h))

  narrow_by : (e v r a : ℕ) (k : KeyOf d 16) → ((q : ℕ) → suc v + a ≤ q → q < suc v + (e + a) → parent t q ≢ v)
      → PartHas (key_add d 16) (key_none d 16) (length t) (parent t) (rank t d key) (group t) (length t) v r (e + a) k
      → PartHas (key_add d 16) (key_none d 16) (length t) (parent t) (rank t d key) (group t) (length t) v r a k
  narrow_by zero v r a k none h =
      let same : 0 + a ≡ a = omega arith in
      subst (λ n. PartHas (key_add d 16) (key_none d 16) (length t) (parent t) (rank t d key) (group t) (length t) v r n k) same h
  narrow_by (suc e) v r a k none h =
      let same : suc e + a ≡ suc (e + a) = omega arith in
      narrow_by e v r a k (λ q x y. none q x (omega arith))
      (part_skipped (key_below d 16) (key_add d 16) (key_none d 16) (tuple_keys d 16) (length t) (parent t) (rank t d key) (group t) (length t) v r (e + a) (suc v + (e + a)) k refl
      (none (suc v + (e + a)) (omega arith) (omega arith))
      (subst (λ n. PartHas (key_add d 16) (key_none d 16) (length t) (parent t) (rank t d key) (group t) (length t) v r n k) same h))

  -- a ranking with the nodes up to a is one with the nodes up to b, if there is no child between
  -- them
  widened : (v r a b : ℕ) (ks : List (KeyOf d 16)) → a ≤ b → ((q : ℕ) → suc v + a ≤ q → q < suc v + b → parent t q ≢ v)
      → IsRanking (KeyOf d 16) (key_below d 16) (PartHas (key_add d 16) (key_none d 16) (length t) (parent t) (rank t d key) (group t) (length t) v r a) ks
      → IsRanking (KeyOf d 16) (key_below d 16) (PartHas (key_add d 16) (key_none d 16) (length t) (parent t) (rank t d key) (group t) (length t) v r b) ks
  widened v r a b ks l none h =
      let at : b - a + a ≡ b = omega arith in
      subst (λ n. IsRanking (KeyOf d 16) (key_below d 16) (PartHas (key_add d 16) (key_none d 16) (length t) (parent t) (rank t d key) (group t) (length t) v r n) ks) at
      (IsRanking-same (key_below d 16) _ _ ks (λ k x. widen_by (b - a) v r a k (λ q y z. none q y (omega (arith, at))) x) (λ k x. narrow_by (b - a) v r a k (λ q y z. none q y (omega (arith, at))) x) h)

  module _ (formed : IsFormed d key t) where
    pub kid : (v c : ℕ) → c < child_count t v → IsChild (parent t) v c (length t) (child t v c)
    kid v c h = child_is (parent t) v c (length t) h

    pub kid_below : (v c : ℕ) → c < child_count t v → v < child t v c
    kid_below v c h =
        let k : IsChild (parent t) v c (length t) (child t v c) = kid v c h in
        subst (λ p. p < child t v c) k.parent_is (formed.shaped.parents_first (child t v c) k.some k.within)

    pub part_within : (v c : ℕ) → v < length t → c ≤ child_count t v → suc v + part_end t v c ≤ length t
    part_within v zero l h = omega arith
    part_within v (suc c) l h = omega (arith, kid_below v c (omega arith), (kid v c (omega arith)).within)

    -- between the part before a child and the child there is no other child
    pub gap : (v c q : ℕ) → c < child_count t v → suc v + part_end t v c ≤ q → q < child t v c → parent t q ≢ v
    gap v zero q h a b = none_between (parent t) v 0 (length t) (child t v 0) q (kid v 0 h) (omega arith) b refl
    gap v (suc c) q h a b = none_between_two (parent t) v c (length t) (child t v c) (child t v (suc c)) q (kid v c (omega arith)) (kid v (suc c) h) (omega (arith, kid_below v c (omega arith))) b

    pub ends_before : (v c : ℕ) → c < child_count t v → suc v + part_end t v c ≤ child t v c
    ends_before v zero h = omega (arith, kid_below v 0 h)
    ends_before v (suc c) h = omega (arith, kid_below v c (omega arith), later_child (parent t) v c (length t) (child t v c) (child t v (suc c)) (kid v c (omega arith)) (kid v (suc c) h))

    after_last : (v c q : ℕ) → c ≡ child_count t v → v < length t → suc v + part_end t v c ≤ q → q < length t → parent t q ≢ v
    after_last v zero q e l a b = none_at_all (parent t) v (length t) q e (omega arith) b
    after_last v (suc c) q e l a b = none_after (parent t) v c (length t) (child t v c) q (kid v c (omega arith)) e (omega (arith, kid_below v c (omega arith))) b

    -- the solutions of a row with all children are those of the row
    pub row_is_ranking : (v r : ℕ) → v < length t → IsRanking (KeyOf d 16) (key_below d 16) (RowSolution d key t v r) (part_list d key t v r (child_count t v))
    row_is_ranking v r l =
        let w : suc v + part_end t v (child_count t v) ≤ length t = part_within v (child_count t v) l (omega arith) in
        IsRanking-same (key_below d 16) _ (RowSolution d key t v r) (part_list d key t v r (child_count t v))
        (λ k h. shallower (key_below d 16) (key_add d 16) (key_none d 16) (tuple_keys d 16) (length t) (parent t) (rank t d key) (group t) formed.shaped.parents_first (length t) v r k l (omega arith)
        (row_of_part (key_below d 16) (key_add d 16) (key_none d 16) (tuple_keys d 16) (length t) (parent t) (rank t d key) (group t) (length t) v r (length t - suc v) k refl l h))
        (λ k h. part_of_row (key_below d 16) (key_add d 16) (key_none d 16) (tuple_keys d 16) (length t) (parent t) (rank t d key) (group t) (length t) v r (length t - suc v) k refl l
        (deeper (key_below d 16) (key_add d 16) (key_none d 16) (tuple_keys d 16) (length t) (parent t) (rank t d key) (group t) formed.shaped.parents_first (length t) v r k l (omega arith) h))
        (widened v r (part_end t v (child_count t v)) (length t - suc v) (part_list d key t v r (child_count t v)) (omega arith) (λ q a b. after_last v (child_count t v) q refl l a (omega arith)) (part_is_ranking v r (child_count t v) w))

    -- the group that the row names for its child
    pub named_group : (v r c : ℕ) → c < child_count t v → group_number t (child t v c) r ≡ group_named t v r c
    named_group v r c h =
        let k : IsChild (parent t) v c (length t) (child t v c) = kid v c h in
        cond-false (nat_eq (child t v c) 0) 0 _ (ne_eqb (child t v c) 0 (λ e. omega (arith, k.some)))
        ∙ ap (λ p. group_named t p r (kids_below (parent t) p (child t v c))) k.parent_is ∙ ap (λ n. group_named t v r n) k.number

    pub named_in : (v r c : ℕ) → r < rows t v → c < child_count t v → group_named t v r c < group_count t (child t v c)
    named_in v r c row h =
        let k : IsChild (parent t) v c (length t) (child t v c) = kid v c h in
        subst (λ n. group_named t v r n < group_count t (child t v c)) k.number
        (subst (λ p. group_named t p r (kids_below (parent t) p (child t v c)) < group_count t (child t v c)) k.parent_is
        (formed.named (child t v c) r k.some k.within (subst (λ p. r < rows t p) (sym k.parent_is) row)))

    pub left_ranking : (v r c : ℕ) → v < length t → c < child_count t v
        → IsRanking (KeyOf d 16) (key_below d 16) (PartHas (key_add d 16) (key_none d 16) (length t) (parent t) (rank t d key) (group t) (length t) v r (child t v c - suc v)) (part_list d key t v r c)
    left_ranking v r c l h =
        widened v r (part_end t v c) (child t v c - suc v) (part_list d key t v r c) (omega (arith, ends_before v c h)) (λ q a b. gap v c q h a (omega (arith, kid_below v c h))) (part_is_ranking v r c (part_within v c l (omega arith)))

    pub right_ranking : (v r c : ℕ) → c < child_count t v
        → IsRanking (KeyOf d 16) (key_below d 16) (GroupHas (key_add d 16) (key_none d 16) (length t) (parent t) (rank t d key) (group t) (length t) (child t v c) r) (group_list d key t (child t v c) (group_named t v r c))
    right_ranking v r c h =
        subst (λ g. IsRanking (KeyOf d 16) (key_below d 16) (GroupHas (key_add d 16) (key_none d 16) (length t) (parent t) (rank t d key) (group t) (length t) (child t v c) r) (group_list d key t (child t v c) g)) (named_group v r c h)
        (group_is_ranking (child t v c) (group_number t (child t v c) r) (kid v c h).within)

    pub sum_ranking : (v r c : ℕ) → v < length t → c < child_count t v
        → IsRanking (KeyOf d 16) (key_below d 16) (PartHas (key_add d 16) (key_none d 16) (length t) (parent t) (rank t d key) (group t) (length t) v r (suc (child t v c - suc v))) (part_list d key t v r (suc c))
    sum_ranking v r c l h =
        let at : child t v c - v ≡ suc (child t v c - suc v) = omega (arith, kid_below v c h) in
        subst (λ n. IsRanking (KeyOf d 16) (key_below d 16) (PartHas (key_add d 16) (key_none d 16) (length t) (parent t) (rank t d key) (group t) (length t) v r n) (part_list d key t v r (suc c))) at
        (part_is_ranking v r (suc c) (part_within v (suc c) l (omega arith)))

    -- what `join` requires of the sums
    pub sum_fits : (v r c i j : ℕ) → v < length t → c < child_count t v → i < length (part_list d key t v r c) → j < length (group_list d key t (child t v c) (group_named t v r c))
        → KeyFits d key (key_add d 16 (get_or (part_list d key t v r c) i (key_none d 16)) (get_or (group_list d key t (child t v c) (group_named t v r c)) j (key_none d 16)))
    sum_fits v r c i j l h a b =
        part_key_fits d key t formed (length t) v r (suc (child t v c - suc v)) _ l (omega (arith, kid_below v c h, (kid v c h).within))
        (part_join (key_below d 16) (key_add d 16) (key_none d 16) (tuple_keys d 16) (length t) (parent t) (rank t d key) (group t) (length t) v r (child t v c - suc v) (child t v c) _ _ (omega (arith, kid_below v c h)) (kid v c h).parent_is
        ((left_ranking v r c l h).sound _ (get_member (part_list d key t v r c) i (key_none d 16) a))
        ((right_ranking v r c h).sound _ (get_member (group_list d key t (child t v c) (group_named t v r c)) j (key_none d 16) b)))

    -- a solution of a row with its first children
    pub part_fits : (v r c i : ℕ) → v < length t → c ≤ child_count t v → i < length (part_list d key t v r c) → KeyFits d key (get_or (part_list d key t v r c) i (key_none d 16))
    part_fits v r c i l few h =
        let within = part_within v c l few in
        part_key_fits d key t formed (length t) v r (part_end t v c) _ l (omega (arith, within)) ((part_is_ranking v r c within).sound _ (get_member (part_list d key t v r c) i (key_none d 16) h))

    -- a subtree solution of a group
    pub solution_fits : (q g i : ℕ) → q < length t → i < length (group_list d key t q g) → KeyFits d key (get_or (group_list d key t q g) i (key_none d 16))
    solution_fits q g i l h =
        let some = (group_is_ranking q g l).sound _ (get_member (group_list d key t q g) i (key_none d 16) h) in
        subtree_key_fits d key t formed (length t) q (get_or (members t q g) some.0 0) _ l some.2

    -- a product begins with the sum of the two heads
    pub sums_begin : IsTieFreeTree t → (v r c : ℕ) → v < length t → c < child_count t v
        → Remains Pair (KeyOf d 16) (key_below d 16) (pair_key (key_add d 16) (key_none d 16) (part_list d key t v r c) (group_list d key t (child t v c) (group_named t v r c)))
        (total (stands_for (length (part_list d key t v r c)) (length (group_list d key t (child t v c) (group_named t v r c)))) ((record { left = 0; right = 0 }) ∷ [])) (part_list d key t v r (suc c))
    sums_begin apart v r c l h =
        product_begins (key_below d 16) (key_add d 16) (key_none d 16) (tuple_keys d 16) (length t) (parent t) (rank t d key) (group t) formed.shaped.parents_first (item t) (number t) (slot_of d 16) (tie_free_of d key t formed apart)
        (length t) v r (child t v c - suc v) (child t v c) (part_list d key t v r c) (group_list d key t (child t v c) (group_named t v r c)) (part_list d key t v r (suc c)) (omega (arith, kid_below v c h)) (kid v c h).within (kid v c h).parent_is
        (left_ranking v r c l h) (right_ranking v r c h) (sum_ranking v r c l h)

    -- each group has at least one solution
    pub group_some : (q g : ℕ) → q < length t → g < group_count t q → 0 < length (group_list d key t q g)
    group_some q g l h =
        let i : 0 < length (members t q g) = formed.inhabited q g l h in
        some_member (best t d key q (get_or (members t q g) 0 0)) (group_list d key t q g) ((group_is_ranking q g l).complete _ (0, i, best_had d key t formed (length t) q (get_or (members t q g) 0 0) (omega arith) l (member_is_row d key t formed q g 0 l i)))

    -- with no child a row has one solution
    pub none_is_own : (v r : ℕ) (k : KeyOf d 16) → v < length t → IsMember k (part_list d key t v r 0) → k ≡ rank t d key v r
    none_is_own v r k l h = part_first_only (key_below d 16) (key_add d 16) (key_none d 16) (tuple_keys d 16) (length t) (parent t) (rank t d key) (group t) (length t) v r k ((part_is_ranking v r 0 (omega arith)).sound k h)

    pub own_some : (v r : ℕ) → v < length t → 0 < length (part_list d key t v r 0)
    own_some v r l =
        some_member (rank t d key v r) (part_list d key t v r 0) ((part_is_ranking v r 0 (omega arith)).complete (rank t d key v r) (part_first (key_below d 16) (key_add d 16) (key_none d 16) (tuple_keys d 16) (length t) (parent t) (rank t d key) (group t) (length t) v r (rank t d key v r) refl))

    pub own_first : (v r : ℕ) → v < length t → get_or (part_list d key t v r 0) 0 (key_none d 16) ≡ rank t d key v r
    own_first v r l = none_is_own v r _ l (get_member (part_list d key t v r 0) 0 (key_none d 16) (own_some v r l))

    pub own_only : (v r : ℕ) → v < length t → length (part_list d key t v r 0) ≤ 1
    own_only v r l = few (part_list d key t v r 0) (part_ascends v r 0) (λ k h. none_is_own v r k l h)
      where
        few : (ks : List (KeyOf d 16)) → IsAscending (key_below d 16) ks → ((k : KeyOf d 16) → IsMember k ks → k ≡ rank t d key v r) → length ks ≤ 1
        few [] a s = omega arith
        few (x ∷ []) a s = omega arith
        few (x ∷ (y ∷ ks)) a s = absurd ((tuple_keys d 16).order.irreflexive y (subst (λ z. key_below d 16 z y) (s x (inl refl) ∙ sym (s y (inr (inl refl)))) a.0.0))
