-- What stays the same where nodes get least keys and another order in their groups.
use Rattle.std.proofs.Common.{◌≡◌, ℕ, suc, ◌+◌, ◌<◌, ◌↔◌, cond, nat_eq, List, [], ◌∷◌, length, map, get_or, refl, sym, ap, subst, ◌∙◌, arith}
use Rattle.std.proofs.Math.Path.{fun_ext}
use Rattle.std.specs.List.{Contains, concat, range_with_len}
use Rattle.std.specs.List.Sorted.{IsPermutation}
use Rattle.std.proofs.lemmas.List.{get_or_default}
use Rattle.std.proofs.lemmas.List.Elements.{Contains-get_or}
use Rattle.std.proofs.lemmas.List.Sorted.{IsPermutation-refl, IsPermutation-sym, IsPermutation-trans, IsPermutation-append, Contains-permutation, length_permutation}
use Rattle.tdp_model.specs.KeyTuple.{KeyOf, key_add, key_none}
use Rattle.tdp_model.specs.TreeProblem.{sum_from}
use Rattle.tdp_core.specs.TreeView.{NodeView, node_at, parent, item, cap, cap_of, rows, number, kids_below, child_place, group_count, members, group_named, group_number, group, rank}
use Rattle.tdp_core.specs.WellFormed.{AreHeld, IsShaped, RowFits, IsLaidOut, IsTieFreeTree}
use Rattle.tdp_core.specs.Solutions.{IsTreeSolution}
use Rattle.tree_dp.specs.SolvedTrees.{IsReordered, IsSolved}

pub reordered_refl : {R : Type 0} (n : NodeView R) → IsReordered n n
reordered_refl n = record { shape = refl; rows = refl; to_child = refl; group_count = refl; groups = λ g. IsPermutation-refl (get_or n.groups g []) }

pub reordered_trans : {R : Type 0} (a b c : NodeView R) → IsReordered a b → IsReordered b c → IsReordered a c
reordered_trans a b c p q = record {
  shape = q.shape ∙ p.shape;
  rows = q.rows ∙ p.rows;
  to_child = q.to_child ∙ p.to_child;
  group_count = q.group_count ∙ p.group_count;
  groups = λ g. IsPermutation-trans _ _ _ (p.groups g) (q.groups g);
}

-- all members, where each group is put into another order
concat_permutation : (gs hs : List (List ℕ)) → length hs ≡ length gs → ((g : ℕ) → IsPermutation (get_or gs g []) (get_or hs g [])) → IsPermutation (concat gs) (concat hs)
concat_permutation [] [] e h = IsPermutation-refl []
concat_permutation [] (y ∷ hs) e h = absurd (omega arith)
concat_permutation (x ∷ gs) [] e h = absurd (omega arith)
concat_permutation (x ∷ gs) (y ∷ hs) e h = IsPermutation-append x y (concat gs) (concat hs) (h 0) (concat_permutation gs hs (omega arith) (λ g. h (suc g)))

-- a place of the list stands for a place of each reordered list
place_of : (xs ys : List ℕ) → IsPermutation xs ys → (i : ℕ) → i < length ys → (j : ℕ) × (j < length xs) × (get_or xs j 0 ≡ get_or ys i 0)
place_of xs ys moved i l =
    let in_xs : Contains xs (get_or ys i 0) = Contains-permutation ys xs (get_or ys i 0) (IsPermutation-sym xs ys moved) (Contains-get_or ys i 0 l) in
    (in_xs.0, in_xs.1, get_or_default xs in_xs.0 0 (get_or ys i 0) in_xs.1 ∙ in_xs.2)

module _ {R : Type 0} (before after : List (NodeView R)) (nodes : (v : ℕ) → IsReordered (node_at before v) (node_at after v)) where
  pub parent_same : parent after ≡ parent before
  parent_same = fun_ext (λ q. ap (λ s. s.parent) (nodes q).shape)

  item_same : item after ≡ item before
  item_same = fun_ext (λ v. ap (λ s. s.item) (nodes v).shape)

  cap_same : cap after ≡ cap before
  cap_same = fun_ext (λ v. fun_ext (λ i. ap (λ s. cap_of s i) (nodes v).shape))

  pub rows_same : rows after ≡ rows before
  rows_same = fun_ext (λ v. ap length (nodes v).rows)

  number_same : number after ≡ number before
  number_same = fun_ext (λ v. fun_ext (λ r. ap (λ xs. get_or (map (λ x. x.row) xs) r 0) (nodes v).rows))

  pub rank_same : (d : ℕ) (key : R → KeyOf d 16) → rank after d key ≡ rank before d key
  rank_same d key = fun_ext (λ v. fun_ext (λ r. ap (λ xs. get_or (map (λ x. key x.rank) xs) r (key_none d 16)) (nodes v).rows))

  group_named_same : (v r c : ℕ) → group_named after v r c ≡ group_named before v r c
  group_named_same v r c = ap (λ xs. get_or (get_or xs r []) c 0) (nodes v).to_child

  pub group_number_same : (q r : ℕ) → group_number after q r ≡ group_number before q r
  group_number_same q r =
      ap (λ g. cond (nat_eq q 0) 0 g) (group_named_same (parent after q) r (child_place after q) ∙ ap (λ p. group_named before (p q) r (kids_below p (p q) q)) parent_same)

  group_same : (q r : ℕ) → IsPermutation (group before q r) (group after q r)
  group_same q r = subst (λ g. IsPermutation (group before q r) (members after q g)) (sym (group_number_same q r)) ((nodes q).groups (group_number before q r))

  solutions_same : length after ≡ length before → (t : ℕ → ℕ) → IsTreeSolution before t ↔ IsTreeSolution after t
  solutions_same count t = (
    (λ h q l.
        let here : Contains (group before q (t (parent before q))) (t q) = h q (omega (arith, count)) in
        let there : Contains (group after q (t (parent before q))) (t q) = Contains-permutation _ _ (t q) (group_same q (t (parent before q))) here in
        subst (λ p. Contains (group after q (t (p q))) (t q)) (sym parent_same) there),
    (λ h q l.
        let here : Contains (group after q (t (parent after q))) (t q) = h q (omega (arith, count)) in
        let there : Contains (group before q (t (parent after q))) (t q) = Contains-permutation _ _ (t q) (IsPermutation-sym _ _ (group_same q (t (parent after q)))) here in
        subst (λ p. Contains (group before q (t (p q))) (t q)) parent_same there),
  )

  tie_free_kept_lem2 : length after ≡ length before → IsTieFreeTree before → IsTieFreeTree after
  tie_free_kept_lem2 count apart v g i j l h k same =
      let x = place_of (members before v g) (members after v g) ((nodes v).groups g) i h in
      let y = place_of (members before v g) (members after v g) ((nodes v).groups g) j k in
      let numbers : number before v (get_or (members before v g) x.0 0) ≡ number before v (get_or (members before v g) y.0 0) =
      ap (number before v) x.2 ∙ ap (λ f. f v (get_or (members after v g) i 0)) (sym number_same) ∙ same ∙ ap (λ f. f v (get_or (members after v g) j 0)) number_same ∙ ap (number before v) (sym y.2)
      in
      sym x.2 ∙ apart v g x.0 y.0 (omega (arith, count)) x.1 y.1 numbers ∙ y.2

  module _ (d : ℕ) (key : R → KeyOf d 16) (count : length after ≡ length before) (laid : IsLaidOut d key before) where
    shaped : IsShaped (length after) (parent after) (item after) (cap after)
    shaped =
        subst (λ m. IsShaped m (parent after) (item after) (cap after)) (sym count)
        (subst (λ p. IsShaped (length before) p (item after) (cap after)) (sym parent_same)
        (subst (λ i. IsShaped (length before) (parent before) i (cap after)) (sym item_same)
        (subst (λ c. IsShaped (length before) (parent before) (item before) c) (sym cap_same) laid.shaped)))

    held : AreHeld d key (length after) (item after) (cap after)
    held =
        subst (λ m. AreHeld d key m (item after) (cap after)) (sym count)
        (subst (λ i. AreHeld d key (length before) i (cap after)) (sym item_same)
        (subst (λ c. AreHeld d key (length before) (item before) c) (sym cap_same) laid.held))

    total_same : sum_from ◌+◌ 0 (rows after) (length after) 0 ≡ sum_from ◌+◌ 0 (rows before) (length before) 0
    total_same = ap (λ f. sum_from ◌+◌ 0 f (length after) 0) rows_same ∙ ap (λ m. sum_from ◌+◌ 0 (rows before) m 0) count

    row_same : (v r : ℕ) → r < rows after v → r < rows before v
    row_same v r h = omega (arith, ap (λ f. f v) rows_same)

    rows_fit : (v r : ℕ) → v < length after → r < rows after v → RowFits d (item after v) (cap after v) (number after v r) (rank after d key v r)
    rows_fit v r l h =
        subst (λ i. RowFits d (i v) (cap after v) (number after v r) (rank after d key v r)) (sym item_same)
        (subst (λ c. RowFits d (item before v) (c v) (number after v r) (rank after d key v r)) (sym cap_same)
        (subst (λ n. RowFits d (item before v) (cap before v) (n v r) (rank after d key v r)) (sym number_same)
        (subst (λ k. RowFits d (item before v) (cap before v) (number before v r) (k v r)) (sym (rank_same d key))
        (laid.rows_fit v r (omega (arith, count)) (row_same v r h)))))

    named : (q r : ℕ) → 0 < q → q < length after → r < rows after (parent after q) → group_named after (parent after q) r (child_place after q) < group_count after q
    named q r some l h =
        let row : r < rows before (parent before q) = row_same (parent before q) r (subst (λ p. r < rows after (p q)) parent_same h) in
        let is : group_named after (parent after q) r (child_place after q) ≡ group_named before (parent before q) r (child_place before q) =
        group_named_same (parent after q) r (child_place after q) ∙ ap (λ p. group_named before (p q) r (kids_below p (p q) q)) parent_same
        in
        omega (arith, is, (nodes q).group_count, laid.named q r some (omega (arith, count)) row)

    pub layout_kept : IsLaidOut d key after
    layout_kept = record {
      shaped = shaped;
      held = held;
      few_rows = omega (arith, total_same, laid.few_rows);
      rows_fit = rows_fit;
      all_name = λ v l. ap length (nodes v).to_child ∙ laid.all_name v (omega (arith, count)) ∙ ap (λ f. f v) (sym rows_same);
      name_all = λ v r l h.
          ap (λ xs. length (get_or xs r [])) (nodes v).to_child ∙ laid.name_all v r (omega (arith, count)) (row_same v r h)
          ∙ ap (λ p. kids_below p v (length before)) (sym parent_same) ∙ ap (kids_below (parent after) v) (sym count);
      named = named;
      grouped = λ v l.
          subst (λ n. IsPermutation (range_with_len 0 n) (concat (node_at after v).groups)) (sym (ap length (nodes v).rows))
          (IsPermutation-trans _ _ _ (laid.grouped v (omega (arith, count))) (concat_permutation (node_at before v).groups (node_at after v).groups (nodes v).group_count (nodes v).groups));
      inhabited = λ v g l h. omega (arith, length_permutation _ _ ((nodes v).groups g), laid.inhabited v g (omega (arith, count)) (omega (arith, (nodes v).group_count)));
      one_root = omega (arith, (nodes 0).group_count, laid.one_root);
    }

-- the same tree problem
pub solved_of : {R : Type 0} (before after : List (NodeView R)) → length after ≡ length before → ((v : ℕ) → IsReordered (node_at before v) (node_at after v)) → IsSolved before after
solved_of before after count nodes = record {
  node_count = count;
  nodes = nodes;
  solutions = solutions_same before after nodes count;
  same_key = λ d key t.
      ap (λ f. sum_from (key_add d 16) (key_none d 16) (λ q. f q (t q)) (length after) 0) (rank_same before after nodes d key)
      ∙ ap (λ m. sum_from (key_add d 16) (key_none d 16) (λ q. rank before d key q (t q)) m 0) count;
  tie_free = tie_free_kept_lem2 before after nodes count;
}
