-- The sum of the keys of a subtree's rows, and the least one.
use Rattle.std.proofs.Common.{◌≡◌, ◌<◌, ◌≤◌, ◌+◌, ◌-◌, ℕ, zero, suc, cond, nat_eq, Contains, List, length, get_or}
use Rattle.std.proofs.Common.{refl, sym, ap, subst, ◌∙◌, inl, inr, arith}
use Rattle.std.proofs.lemmas.Bool.{cases_eq}
use Rattle.std.proofs.lemmas.List.{get_or_default}
use Rattle.tdp_model.specs.Below.{is_below}
use Rattle.tdp_model.specs.KeyTuple.{KeyOf, key_add, key_below, key_none}
use Rattle.tdp_model.specs.Remains.{AtMost}
use Rattle.tdp_model.specs.TreeProblem.{kid_key, kid_part, sum_from, RowHas}
use Rattle.tdp_model.proofs.Descent.{below_parent}
use Rattle.tdp_model.proofs.Keys.{at_most_trans}
use Rattle.tdp_model.proofs.KeyTuples.{tuple_keys}
use Rattle.tdp_model.proofs.Subtrees.{climbs_all, climbs_ordered}
use Rattle.tdp_model.proofs.Sums.{sum_same}
use Rattle.tdp_core.specs.TreeView.{NodeView, best, group, group_count, members, parent, rank, rows}
use Rattle.tdp_core.specs.WellFormed.{IsFormed}
use Rattle.tdp_core.proofs.TreeFacts.{best_least}
use Rattle.proof_model.proofs.Splitting.{within_split}
use Rattle.proof_model.proofs.Sums.{pick_eq, pick_ne}
use Rattle.proof_write.specs.Firsts.{IsFirst, IsUnder}
use Rattle.proof_write.proofs.NodeBounds.{early, itself, row_there}

module _ {R : Type 0} (d : ℕ) (key : R → KeyOf d 16) (tree : List (NodeView R)) (formed : IsFormed d key tree) where
  -- the sum of the keys of the chosen rows of the subtree of node v
  abbrev pub chosen_key : (ℕ → ℕ) → ℕ → KeyOf d 16
  chosen_key chosen v = sum_from (key_add d 16) (key_none d 16)
      (λ q. cond (nat_eq (is_below (parent tree) v q) 1) (rank tree d key q (chosen q)) (key_none d 16)) (length tree) 0

  splits : (chosen : ℕ → ℕ) (v : ℕ) → v < length tree
      → chosen_key chosen v ≡ key_add d 16 (rank tree d key v (chosen v))
      (sum_from (key_add d 16) (key_none d 16) (kid_key (key_none d 16) (parent tree) v (chosen_key chosen))
      (length tree - suc v) (suc v))
  splits chosen v l = within_split (key_below d 16) (key_add d 16) (key_none d 16) (tuple_keys d 16) (length tree)
      (parent tree) (early d key tree formed) (λ q. rank tree d key q (chosen q)) v l

  -- a child of a node of the subtree is in the subtree
  kid_under : (v w q : ℕ) → v ≤ w → w < q → q < length tree → parent tree q ≡ w → 0 < is_below (parent tree) v w
      → 0 < is_below (parent tree) v q
  kid_under v w q from less l up under =
      let same = below_parent (length tree) (parent tree) (early d key tree formed) v q (omega (arith, less)) l
      (λ e. omega (arith, e, less, from)) in
      omega (arith, same, ap (is_below (parent tree) v) up, under)

  -- ---- the first solution of a group

  module _ (v g : ℕ) (node : v < length tree) (there : g < group_count tree v) (numbers : List ℕ)
      (first : IsFirst tree v g numbers) where
    kid_same : (w q : ℕ) → v ≤ w → w < q → q < length tree → 0 < is_below (parent tree) v w
        → (parent tree q ≡ w → chosen_key first.chosen q ≡ best tree d key q (first.chosen q))
        → kid_part (key_add d 16) (key_none d 16) (length tree) (parent tree) (rank tree d key) (group tree)
        (best tree d key) w (first.chosen w) q
        ≡ kid_key (key_none d 16) (parent tree) w (chosen_key first.chosen) q
    unfolding kid_part kid_key
    kid_same w q from less l under same = elim (cases_eq (parent tree q) w) [
      | inl e ↦
          let u : IsUnder tree v q = (l, kid_under v w q from less l e under) in
          let own : first.chosen q ≡ get_or (group tree q (first.chosen w)) 0 0 =
          first.named q (omega (arith, from, less)) u ∙ ap (λ p. get_or (group tree q (first.chosen p)) 0 0) e in
          pick_eq (parent tree q) w (best tree d key q (get_or (group tree q (first.chosen w)) 0 0)) (key_none d 16) e
          ∙ ap (best tree d key q) (sym own) ∙ sym (same e)
          ∙ sym (pick_eq (parent tree q) w (chosen_key first.chosen q) (key_none d 16) e)
      | inr n ↦
          pick_ne (parent tree q) w (best tree d key q (get_or (group tree q (first.chosen w)) 0 0)) (key_none d 16) n
          ∙ sym (pick_ne (parent tree q) w (chosen_key first.chosen q) (key_none d 16) n)
    ]

    best_sum : (f w : ℕ) → length tree ≤ f + w → v ≤ w → IsUnder tree v w
        → chosen_key first.chosen w ≡ best tree d key w (first.chosen w)
    best_sum zero w e from u = let l = u.0 in absurd (omega (arith, e, l))
    best_sum (suc f) w e from u =
        splits first.chosen w u.0
        ∙ ap (λ k. key_add d 16 (rank tree d key w (first.chosen w)) k)
        (sym (sum_same (key_below d 16) (key_add d 16) (key_none d 16) (tuple_keys d 16)
        (kid_part (key_add d 16) (key_none d 16) (length tree) (parent tree) (rank tree d key) (group tree)
        (best tree d key) w (first.chosen w))
        (kid_key (key_none d 16) (parent tree) w (chosen_key first.chosen)) (length tree - suc w) (suc w)
        (λ q a b.
        let l : q < length tree = (let lw = u.0 in omega (arith, a, b, lw)) in
        kid_same w q from (omega (arith, a)) l u.1 (λ up.
        best_sum f q (omega (arith, e, a)) (omega (arith, from, a))
        (l, kid_under v w q from (omega (arith, a)) l up u.1)))))
        ∙ sym (formed.bests w (first.chosen w) u.0 (row_there d key tree formed v node g there numbers first w u))

    -- has the least key of the group's first row
    pub first_sum : chosen_key first.chosen v ≡ best tree d key v (get_or (members tree v g) 0 0)
    first_sum = best_sum (length tree) v (omega arith) (omega arith) (itself d key tree formed v node)
        ∙ ap (best tree d key v) first.top

  -- ---- any solution of a subtree

  module _ (v : ℕ) (chosen : ℕ → ℕ)
      (linked : (q : ℕ) → v < q → IsUnder tree v q → Contains (group tree q (chosen (parent tree q))) (chosen q)) where
    has_sum : (depth w : ℕ) → length tree ≤ depth + w → v ≤ w → IsUnder tree v w
        → RowHas (key_add d 16) (key_none d 16) (length tree) (parent tree) (rank tree d key) (group tree) depth w
        (chosen w) (chosen_key chosen w)
    has_sum zero w e from u = let l = u.0 in absurd (omega (arith, e, l))
    has_sum (suc depth) w e from u = (
      chosen_key chosen,
      λ q less l up.
          let under : IsUnder tree v q = (l, kid_under v w q from less l up u.1) in
          let c = linked q (omega (arith, from, less)) under in
          let i : ℕ = c.0 in
          let inside : i < length (group tree q (chosen (parent tree q))) = c.1 in
          let at : get_or (group tree q (chosen (parent tree q))) i 0
          ≡ chosen q = get_or_default (group tree q (chosen (parent tree q))) i 0 (chosen q) inside ∙ c.2 in (
            i,
            subst (λ p. i < length (group tree q (chosen p))) up inside,
            subst (λ x. RowHas (key_add d 16) (key_none d 16) (length tree) (parent tree) (rank tree d key)
                (group tree) depth q x (chosen_key chosen q))
                (sym (subst (λ p. get_or (group tree q (chosen p)) i 0 ≡ chosen q) up at))
                (has_sum depth q (omega (arith, e, less)) (omega (arith, from, less)) under),
          ),
      splits chosen w u.0,
    )

    -- has no lesser key than the best of its first row
    pub sum_least : (node : v < length tree) → chosen v < rows tree v
        → AtMost (key_below d 16) (best tree d key v (chosen v)) (chosen_key chosen v)
    sum_least node row =
        best_least d key tree formed (length tree) v (chosen v) (chosen_key chosen v) node row
        (has_sum (length tree) v (omega arith) (omega arith) (itself d key tree formed v node))

  -- the first row of a group has the least best
  pub first_best : (v g i : ℕ) → v < length tree → i < length (members tree v g)
      → AtMost (key_below d 16) (best tree d key v (get_or (members tree v g) 0 0))
      (best tree d key v (get_or (members tree v g) i 0))
  first_best v g i l inside =
      climbs_ordered (λ x y. AtMost (key_below d 16) (best tree d key v (get_or (members tree v g) x 0))
      (best tree d key v (get_or (members tree v g) y 0))) (length (members tree v g))
      (λ x. inr refl) (λ x y z p s. at_most_trans (key_below d 16) (tuple_keys d 16).order _ _ _ p s)
      (λ x p s. formed.heaps v g x l p s)
      i i 0 inside (let c = climbs_all i i (omega arith) in omega (arith, c))
