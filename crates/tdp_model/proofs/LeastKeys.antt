-- The least keys of rows' subtree solutions are those that the rule of dynamic programming gives, also in a tree without solutions.
use Rattle.std.proofs.Common.{◌≡◌, ℕ, zero, suc, ◌+◌, ◌-◌, ◌/◌, ◌<◌, ◌≤◌, Bool, true, false, cond, nat_eq, List, length, get_or, refl, sym, subst, inr, arith}
use Rattle.std.proofs.lemmas.Bool.Decides.{nat_tests}
use Rattle.tdp_model.specs.KeyLaws.{IsKeys}
use Rattle.tdp_model.specs.Remains.{AtMost}
use Rattle.tdp_model.specs.TreeProblem.{sum_from, least_of, kid_part, kid_key, best_by_kids, RowHas, GroupHas}
use Rattle.tdp_model.proofs.Subtrees.{climbs_ordered, climbs_all}
use Rattle.tdp_model.proofs.Keys.{at_most_trans, add_at_most}

-- a sum of which no term is after the other's is not after the other
pub sum_at_most : {K : Type 0} (Below : K → K → Type 0) (add : K → K → K) (none : K) (keys : IsKeys K Below add none) (f g : ℕ → K) (n q : ℕ)
    → ((i : ℕ) → q ≤ i → i < q + n → AtMost Below (f i) (g i)) → AtMost Below (sum_from add none f n q) (sum_from add none g n q)
unfolding sum_from
sum_at_most Below add none keys f g zero q e = inr refl
sum_at_most Below add none keys f g (suc n) q e =
    add_at_most Below add none keys (f q) (g q) _ _ (e q (omega arith) (omega arith)) (sum_at_most Below add none keys f g n (suc q) (λ i l h. e i (omega arith) (omega arith)))

module _ {K : Type 0} (Below : K → K → Type 0) (add : K → K → K) (none : K) (keys : IsKeys K Below add none)
    (m : ℕ) (parent : ℕ → ℕ) (rank : ℕ → ℕ → K) (group : ℕ → ℕ → List ℕ) (best : ℕ → ℕ → K) (IsRow : ℕ → ℕ → Type 0)
    (rows : (q r i : ℕ) → 0 < q → q < m → IsRow (parent q) r → i < length (group q r) → IsRow q (get_or (group q r) i 0))
    (inhabited : (q r : ℕ) → 0 < q → q < m → IsRow (parent q) r → 0 < length (group q r))
    (heap : (q r i : ℕ) → 0 < q → q < m → IsRow (parent q) r → 0 < i → i < length (group q r) → AtMost Below (best q (get_or (group q r) ((i - 1) / 2) 0)) (best q (get_or (group q r) i 0))) where
  part_below : (v r q : ℕ) (f : ℕ → K) → (parent q ≡ v → AtMost Below (least_of add none m parent rank group best q r) (f q))
      → AtMost Below (kid_part add none m parent rank group best v r q) (kid_key none parent v f q)
  unfolding kid_part kid_key
  part_below v r q f h = cases (nat_eq (parent q) v) (λ e. h (test_eq (parent q) v e))
    where
      test_eq : (x y : ℕ) → nat_eq x y ≡ true → x ≡ y
      test_eq x y e = grind (arith, nat_tests)

      cases : (b : Bool) → (b ≡ true → AtMost Below (least_of add none m parent rank group best q r) (f q))
          → AtMost Below (cond b (least_of add none m parent rank group best q r) none) (cond b (f q) none)
      cases true h = h refl
      cases false h = inr refl

  first_least : (q r i : ℕ) → 0 < q → q < m → IsRow (parent q) r → i < length (group q r) → AtMost Below (least_of add none m parent rank group best q r) (best q (get_or (group q r) i 0))
  first_least q r i z l up h =
      climbs_ordered (λ x y. AtMost Below (best q (get_or (group q r) x 0)) (best q (get_or (group q r) y 0))) (length (group q r))
      (λ x. inr refl) (λ x y z p s. at_most_trans Below keys.order _ _ _ p s) (λ x p s. heap q r x z l up p s) i i 0 h (omega (arith, climbs_all i i (omega arith)))

  above : (v r q : ℕ) → parent q ≡ v → IsRow v r → IsRow (parent q) r
  above v r q e row = subst (λ z. IsRow z r) (sym e) row

  -- what the rule gives is had, and is least
  module _ (bests : (v r : ℕ) → v < m → IsRow v r → best v r ≡ best_by_kids add none m parent rank group best v r) where
    pub least_at_most : (d v r : ℕ) (k : K) → v < m → IsRow v r → RowHas add none m parent rank group d v r k → AtMost Below (best v r) k
    least_at_most zero v r k l row h = absurd h
    least_at_most (suc d) v r k l row h =
        subst (λ z. AtMost Below z k) (sym (bests v r l row))
        (subst (λ z. AtMost Below (best_by_kids add none m parent rank group best v r) z) (sym h.2)
        (add_at_most Below add none keys _ _ _ _ (inr refl)
        (sum_at_most Below add none keys (kid_part add none m parent rank group best v r) (kid_key none parent v h.0) (m - suc v) (suc v)
        (λ q a b. part_below v r q h.0 (λ e.
        let g : GroupHas add none m parent rank group d q r (h.0 q) = h.1 q (omega arith) (omega arith) e in
        let up = above v r q e row in
        at_most_trans Below keys.order _ _ _ (first_least q r g.0 (omega arith) (omega arith) up g.1)
        (least_at_most d q (get_or (group q r) g.0 0) (h.0 q) (omega arith) (rows q r g.0 (omega arith) (omega arith) up g.1) g.2))))))

    pub least_had : (d v r : ℕ) → m ≤ d + v → v < m → IsRow v r → RowHas add none m parent rank group d v r (best v r)
    unfolding kid_part kid_key
    least_had zero v r e l row = absurd (omega arith)
    least_had (suc d) v r e l row = (
      (λ q. least_of add none m parent rank group best q r),
      (λ q a b s.
          let up = above v r q s row in
          let some : 0 < length (group q r) = inhabited q r (omega arith) b up in
          (0, some, least_had d q (get_or (group q r) 0 0) (omega arith) b (rows q r 0 (omega arith) b up some))),
      bests v r l row,
    )
