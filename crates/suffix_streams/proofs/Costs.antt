-- The number of nodes below the first children of a node.
use Rattle.std.proofs.Common.{◌≡◌, ◌≢◌, ℕ, zero, suc, ◌+◌, ◌<◌, ◌≤◌, cond, nat_eq, List, length, refl, ap, inl, inr, arith}
use Rattle.std.proofs.lemmas.Bool.{cases_lt, cases_eq}
use Rattle.std.proofs.lemmas.Bool.Decides.{nat_tests}
use Rattle.tdp_core.specs.TreeView.{NodeView, parent, child_count, kids_below}
use Rattle.tdp_core.specs.WellFormed.{IsFormed}
use Rattle.tdp_model.specs.Below.{is_below}
use Rattle.tdp_model.specs.KeyTuple.{KeyOf}
use Rattle.tdp_model.specs.TreeProblem.{sum_from}
use Rattle.tdp_model.proofs.Descent.{below_itself, kids_apart, child_below, below_once}
use Rattle.suffix_streams.specs.Rankings.{child}
use Rattle.suffix_streams.specs.Growing.{below_kids, subtree_size, kids_size}
use Rattle.suffix_streams.proofs.Children.{IsChild}
use Rattle.suffix_streams.proofs.Rankings.{kid, kid_below}

-- sums over nodes
sum_least : (f g : ℕ → ℕ) (n q : ℕ) → ((i : ℕ) → q ≤ i → i < q + n → f i ≤ g i) → sum_from ◌+◌ 0 f n q ≤ sum_from ◌+◌ 0 g n q
unfolding sum_from
sum_least f g zero q h = omega arith
sum_least f g (suc n) q h = omega (arith, h q (omega arith) (omega arith), sum_least f g n (suc q) (λ i a b. h i (omega arith) (omega arith)))

sum_both : (f g : ℕ → ℕ) (n q : ℕ) → sum_from ◌+◌ 0 (λ i. f i + g i) n q ≡ sum_from ◌+◌ 0 f n q + sum_from ◌+◌ 0 g n q
unfolding sum_from
sum_both f g zero q = refl
sum_both f g (suc n) q = omega (arith, sum_both f g n (suc q))

sum_none : (n q : ℕ) → sum_from ◌+◌ 0 (λ i. 0) n q ≡ 0
unfolding sum_from
sum_none zero q = refl
sum_none (suc n) q = omega (arith, sum_none n (suc q))

sum_one : (v n q : ℕ) → q ≤ v → v < q + n → 1 ≤ sum_from ◌+◌ 0 (λ i. cond (nat_eq i v) 1 0) n q
unfolding sum_from
sum_one v zero q a b = absurd (omega arith)
sum_one v (suc n) q a b = elim (cases_eq q v) [
  | inl e ↦ omega (arith, here q v e)
  | inr m ↦ omega (arith, sum_one v n (suc q) (omega arith) (omega arith))
]
  where
    here : (q v : ℕ) → q ≡ v → cond {A = ℕ} (nat_eq q v) 1 0 ≡ 1
    here q v e = grind (arith, nat_tests)

sum_many : (f : ℕ → ℕ) (n q : ℕ) → ((i : ℕ) → q ≤ i → i < q + n → f i ≤ 1) → sum_from ◌+◌ 0 f n q ≤ n
unfolding sum_from
sum_many f zero q h = omega arith
sum_many f (suc n) q h = omega (arith, h q (omega arith) (omega arith), sum_many f n (suc q) (λ i a b. h i (omega arith) (omega arith)))

same_is : (w v : ℕ) → w ≡ v → cond {A = ℕ} (nat_eq w v) 1 0 ≡ 1
same_is w v e = grind (arith, nat_tests)

same_not : (w v : ℕ) → w ≢ v → cond {A = ℕ} (nat_eq w v) 1 0 ≡ 0
same_not w v e = grind (arith, nat_tests)

module _ {R : Type 0} (d : ℕ) (key : R → KeyOf d 16) (t : List (NodeView R)) (formed : IsFormed d key t) where
  -- no node is below two children
  pub kids_other : (v c k w : ℕ) → w < length t → c < child_count t v → k ≤ c → 0 < is_below (parent t) (child t v c) w → below_kids t v k w ≡ 0
  kids_other v c zero w l a b p = refl
  kids_other v c (suc k) w l a b p =
      let x : IsChild (parent t) v c (length t) (child t v c) = kid d key t formed v c a in
      let y : IsChild (parent t) v k (length t) (child t v k) = kid d key t formed v k (omega arith) in
      omega (
        arith,
        kids_other v c k w l a (omega arith) p,
        kids_apart (length t) (parent t) formed.shaped.parents_first w v (child t v c) (child t v k) w (omega arith) l (kid_below d key t formed v c a) (kid_below d key t formed v k (omega arith))
            x.within y.within x.parent_is y.parent_is (λ e. omega (arith, x.number, y.number, ap (λ z. kids_below (parent t) v z) e)) p,
      )

  -- a node below the children is below the node, and is not the node
  pub kids_below_node : (v c w : ℕ) → w < length t → c ≤ child_count t v → below_kids t v c w + cond (nat_eq w v) 1 0 ≤ is_below (parent t) v w
  kids_below_node v zero w l a = elim (cases_eq w v) [
    | inl e ↦ omega (arith, same_is w v e, below_itself (length t) (parent t) formed.shaped.parents_first v w e)
    | inr n ↦ omega (arith, same_not w v n)
  ]
  kids_below_node v (suc c) w l a =
      let x : IsChild (parent t) v c (length t) (child t v c) = kid d key t formed v c (omega arith) in
      elim (cases_lt 0 (is_below (parent t) (child t v c) w)) [
        | inr z ↦ omega (arith, kids_below_node v c w l (omega arith))
        | inl p ↦
            let b : (is_below (parent t) v w ≡ 1) × (v < w) = child_below (length t) (parent t) formed.shaped.parents_first w v (child t v c) w (omega arith) l (kid_below d key t formed v c (omega arith)) x.within x.parent_is p in
            omega (arith, kids_other v c c w l (omega arith) (omega arith) p, b.0, b.1, same_not w v (λ e. omega (arith, b.1)), below_once (length t) (parent t) formed.shaped.parents_first w (child t v c) w (omega arith) l)
      ]

  -- the nodes below the children, and the node itself, are below the node
  pub kids_smaller : (v c : ℕ) → v < length t → c ≤ child_count t v → kids_size t v c + 1 ≤ subtree_size t v
  kids_smaller v c l a =
      omega (
        arith,
        sum_one v (length t) 0 (omega arith) (omega arith),
        sum_both (below_kids t v c) (λ i. cond (nat_eq i v) 1 0) (length t) 0,
        sum_least (λ i. below_kids t v c i + cond (nat_eq i v) 1 0) (is_below (parent t) v) (length t) 0 (λ i x y. kids_below_node v c i (omega arith) a),
      )

  pub kids_size_more : (v c : ℕ) → kids_size t v (suc c) ≡ kids_size t v c + subtree_size t (child t v c)
  kids_size_more v c = sum_both (below_kids t v c) (is_below (parent t) (child t v c)) (length t) 0

  pub kids_size_none : (v : ℕ) → kids_size t v 0 ≡ 0
  kids_size_none v = sum_none (length t) 0

  -- there is at least one node for each child
  pub kids_many : (v c : ℕ) → c ≤ child_count t v → c ≤ kids_size t v c
  kids_many v zero a = omega arith
  kids_many v (suc c) a =
      let x : IsChild (parent t) v c (length t) (child t v c) = kid d key t formed v c (omega arith) in
      omega (arith, kids_many v c (omega arith), kids_size_more v c, kids_smaller (child t v c) 0 x.within (omega arith))

  -- a subtree has at most as many nodes as the tree
  pub subtree_few : (v : ℕ) → subtree_size t v ≤ length t
  subtree_few v = sum_many (is_below (parent t) v) (length t) 0 (λ i x y. below_once (length t) (parent t) formed.shaped.parents_first i v i (omega arith) (omega arith))

  pub below_itself_not : (v c : ℕ) → v < length t → c ≤ child_count t v → below_kids t v c v ≡ 0
  below_itself_not v c l a = omega (arith, kids_below_node v c v l a, same_is v v refl, below_once (length t) (parent t) formed.shaped.parents_first v v v (omega arith) l)
