-- What a swap leaves of a total stays within the sum of the nodes' caps.
use Rattle.std.proofs.Common.{◌≡◌, ℕ, zero, suc, ◌+◌, ◌*◌, ◌<◌, ◌≤◌, cond, nat_lt, List, length, get_or, refl, sym, ap, ◌∙◌, subst, inl, inr, arith}
use Rattle.std.proofs.lemmas.Bool.{cases_lt}
use Rattle.tdp_model.specs.KeyLaws.{IsKeys}
use Rattle.tdp_model.specs.Below.{is_below}
use Rattle.tdp_model.specs.TreeProblem.{sum_from, open_part, key_of, least_of, IsTree, IsReached, IsAbove}
use Rattle.tdp_model.proofs.Picks.{pick_ge, pick_lt, pick_pos}
use Rattle.tdp_model.proofs.Descent.{below_less, below_once, nodes_apart}
use Rattle.tdp_model.proofs.Ranges.{sum_of, sum_of_le, sum_of_zero, sum_of_eq, sum_of_join, times_small, weight_sum, span, weight_row}
use Rattle.tdp_model.proofs.Bests.{best_had}
use Rattle.tdp_model.proofs.TreeStaged.{other_of}

-- the first k terms, as a sum with tests
sum_of_first : (f : ℕ → ℕ) (k j q p : ℕ) → p ≡ q + k → sum_of f k q ≤ sum_of (λ u. cond (nat_lt u p) 1 0 * f u) (k + j) q
unfolding sum_of
sum_of_first f zero j q p e = omega arith
sum_of_first f (suc k) j q p e =
    let l : k + j + 1 ≡ suc k + j = omega arith in
    let h : suc (k + j) ≡ suc k + j = omega arith in
    subst (λ z. f q + sum_of f k (suc q) ≤ sum_of (λ u. cond (nat_lt u p) 1 0 * f u) z q) h
    (omega (arith, ap (λ z. z * f q) (pick_lt {K = ℕ} q p 1 0 (omega arith)), sum_of_first f k j (suc q) p (omega arith)))

module _ (m : ℕ) (parent : ℕ → ℕ) (parents_first : (q : ℕ) → 0 < q → q < m → parent q < q) where
  -- how many nodes among the n from s on, with a parent below p, have u below them
  unfoldable pub opens_with : ℕ → ℕ → ℕ → ℕ → ℕ
  opens_with zero p s u = 0
  opens_with (suc n) p s u = cond (nat_lt (parent s) p) (is_below parent s u) 0 + opens_with n p (suc s) u

  none_open : (n p c s u : ℕ) → u < m → p ≤ c → c < s → s + n ≤ m → parent c < p → 0 < is_below parent c u → opens_with n p s u ≡ 0
  unfolding opens_with
  none_open zero p c s u l a lc top e h = refl
  none_open (suc n) p c s u l a lc top e h = elim (cases_lt (parent s) p) [
    | inl x ↦ omega (
      arith,
      pick_lt {K = ℕ} (parent s) p (is_below parent s u) 0 x,
      nodes_apart m parent parents_first u c s u (omega arith) l (omega arith) (omega arith) (λ w. omega arith) h,
      none_open n p c (suc s) u l a (omega arith) (omega arith) e h,
    )
    | inr x ↦ omega (arith, pick_ge {K = ℕ} (parent s) p (is_below parent s u) 0 x, none_open n p c (suc s) u l a (omega arith) (omega arith) e h)
  ]

  -- a node is before p, or below p, or below one open node after p
  open_once : (n p s u : ℕ) → u < m → p < m → p < s → s + n ≤ m → opens_with n p s u + (is_below parent p u + cond (nat_lt u p) 1 0) ≤ 1
  unfolding opens_with
  open_once zero p s u l lp a top = elim (cases_lt u p) [
    | inl x ↦ omega (arith, below_less m parent parents_first p u l x, pick_lt {K = ℕ} u p 1 0 x)
    | inr x ↦ omega (arith, below_once m parent parents_first u p u (omega arith) l, pick_ge {K = ℕ} u p 1 0 x)
  ]
  open_once (suc n) p s u l lp a top = elim (cases_lt (parent s) p) [
    | inr x ↦ omega (arith, pick_ge {K = ℕ} (parent s) p (is_below parent s u) 0 x, open_once n p (suc s) u l lp (omega arith) (omega arith))
    | inl x ↦ elim (cases_lt 0 (is_below parent s u)) [
      | inr z ↦ omega (arith, pick_lt {K = ℕ} (parent s) p (is_below parent s u) 0 x, open_once n p (suc s) u l lp (omega arith) (omega arith))
      | inl h ↦
          let above : parent p < p = parents_first p (omega arith) lp in
          let far : s ≤ u = at_least s u l h in
          omega (
            arith,
            pick_lt {K = ℕ} (parent s) p (is_below parent s u) 0 x,
            below_once m parent parents_first u s u (omega arith) l,
            none_open n p s (suc s) u l (omega arith) (omega arith) (omega arith) x h,
            nodes_apart m parent parents_first u s p u (omega arith) l x (omega arith) (λ w. omega arith) h,
            pick_ge {K = ℕ} u p 1 0 (omega arith),
          )
    ]
  ]
    where
      at_least : (s u : ℕ) → u < m → 0 < is_below parent s u → s ≤ u
      at_least s u l h = elim (cases_lt u s) [ inl x ↦ absurd (omega (arith, below_less m parent parents_first s u l x)) | inr x ↦ x ]

module _ {K : Type 0} (Below : K → K → Type 0) (add : K → K → K) (none : K) (keys : IsKeys K Below add none)
    (weight : K → ℕ) (weight_add : (a b : K) → weight (add a b) ≤ weight a + weight b) (weight_none : weight none ≡ 0)
    (m : ℕ) (parent : ℕ → ℕ) (rank : ℕ → ℕ → K) (group : ℕ → ℕ → List ℕ) (best : ℕ → ℕ → K) (IsRow : ℕ → ℕ → Type 0)
    (tree : IsTree K Below add none m parent rank group best IsRow) (cap : ℕ → ℕ) (capped : (v r : ℕ) → v < m → weight (rank v r) ≤ cap v) where
  abbrev pub span_of : ℕ → ℕ
  span_of v = span add none weight weight_add weight_none m parent rank group tree.parents_first cap capped v

  open_span : (n p s : ℕ) → sum_of (λ q. cond (nat_lt (parent q) p) (span_of q) 0) n s ≡ sum_of (λ u. opens_with m parent tree.parents_first n p s u * cap u) m 0
  unfolding sum_of opens_with
  open_span zero p s = sym (sum_of_zero (λ u. 0 * cap u) m 0 (λ u. omega arith))
  open_span (suc n) p s = elim (cases_lt (parent s) p) [
    | inl e ↦
        ap (λ z. z + sum_of (λ q. cond (nat_lt (parent q) p) (span_of q) 0) n (suc s)) (pick_lt {K = ℕ} (parent s) p (span_of s) 0 e)
        ∙ ap (λ z. span_of s + z) (open_span n p (suc s))
        ∙ sum_of_join (is_below parent s) (opens_with m parent tree.parents_first n p (suc s)) (opens_with m parent tree.parents_first (suc n) p s) cap m 0
        (λ u. ap (λ z. z + opens_with m parent tree.parents_first n p (suc s) u) (pick_lt {K = ℕ} (parent s) p (is_below parent s u) 0 e))
    | inr e ↦
        ap (λ z. z + sum_of (λ q. cond (nat_lt (parent q) p) (span_of q) 0) n (suc s)) (pick_ge {K = ℕ} (parent s) p (span_of s) 0 e)
        ∙ ap (λ z. 0 + z) (open_span n p (suc s))
        ∙ zero_plus (sum_of (λ u. opens_with m parent tree.parents_first n p (suc s) u * cap u) m 0)
        ∙ sum_of_eq (λ u. opens_with m parent tree.parents_first n p (suc s) u * cap u) (λ u. opens_with m parent tree.parents_first (suc n) p s u * cap u) m 0
        (λ u. ap (λ z. z * cap u) (same_opens n p s u e))
  ]
    where
      zero_plus : (a : ℕ) → 0 + a ≡ a
      zero_plus a = omega arith

      same_opens : (n p s u : ℕ) → p ≤ parent s → opens_with m parent tree.parents_first n p (suc s) u ≡ cond (nat_lt (parent s) p) (is_below parent s u) 0 + opens_with m parent tree.parents_first n p (suc s) u
      same_opens n p s u e = omega (arith, pick_ge {K = ℕ} (parent s) p (is_below parent s u) 0 e)

  -- a row's best stays within its node's span
  pub best_weight : (v r : ℕ) → v < m → IsRow v r → weight (best v r) ≤ span_of v
  best_weight v r l row =
      weight_row add none weight weight_add weight_none m parent rank group tree.parents_first cap capped m v r (best v r) l
      (best_had Below add none keys m parent rank group best IsRow tree m v r (omega arith) l row)

  open_weight : (n : ℕ) (pre : List ℕ) (q : ℕ) → IsReached m IsRow (suc n) pre → length pre < q → q < m
      → weight (open_part add none m parent rank group best (length pre) pre q) ≤ cond (nat_lt (parent q) (length pre)) (span_of q) 0
  unfolding open_part
  open_weight n pre q reach l h = elim (cases_lt (parent q) (length pre)) [
    | inl e ↦
        let up : IsAbove parent IsRow q (get_or pre (parent q) 0) = inr (reach.1 (parent q) e) in
        let row : IsRow q (get_or (group q (get_or pre (parent q) 0)) 0 0) = tree.rows q (get_or pre (parent q) 0) 0 h up (tree.inhabited q (get_or pre (parent q) 0) h up) in
        omega (
          arith,
          ap weight (pick_pos q (least_of add none m parent rank group best q (get_or pre (parent q) 0)) (cond (nat_lt (parent q) (length pre)) (least_of add none m parent rank group best q (get_or pre (parent q) 0)) none) (omega arith)
              ∙ pick_lt (parent q) (length pre) (least_of add none m parent rank group best q (get_or pre (parent q) 0)) none e),
          best_weight q (get_or (group q (get_or pre (parent q) 0)) 0 0) h row,
          pick_lt {K = ℕ} (parent q) (length pre) (span_of q) 0 e,
        )
    | inr e ↦
        omega (
          arith,
          ap weight (pick_pos q (least_of add none m parent rank group best q (get_or pre (parent q) 0)) (cond (nat_lt (parent q) (length pre)) (least_of add none m parent rank group best q (get_or pre (parent q) 0)) none) (omega arith)
              ∙ pick_ge (parent q) (length pre) (least_of add none m parent rank group best q (get_or pre (parent q) 0)) none e),
          weight_none,
          pick_ge {K = ℕ} (parent q) (length pre) (span_of q) 0 e,
        )
  ]

  -- The total less the old best, and the span of the node at the position, are together at most the sum of all caps.
  pub other_weight : (n : ℕ) (pre : List ℕ) → IsReached m IsRow (suc n) pre
      → weight (other_of Below add none keys m parent rank group best IsRow tree n pre) + span_of (length pre) ≤ sum_of cap m 0
  unfolding other_of
  other_weight n pre reach =
      let p : ℕ = length pre in
      let size : m ≡ p + suc n = omega (arith, reach.0) in
      let opens : ℕ → ℕ = opens_with m parent tree.parents_first n p (suc p) in
      let first : ℕ → ℕ = λ u. cond (nat_lt u p) 1 0 in
      let a : weight (key_of add none m parent rank group best pre) ≤ sum_of cap p 0 =
      weight_sum add none weight weight_add weight_none (λ q. rank q (get_or pre q 0)) cap p 0 (λ i l h. capped i (get_or pre i 0) (omega arith)) in
      let b : sum_of cap p 0 ≤ sum_of (λ u. first u * cap u) m 0 =
      subst (λ z. sum_of cap p 0 ≤ sum_of (λ u. first u * cap u) z 0) (sym size) (sum_of_first cap p (suc n) 0 p (omega arith)) in
      let c : weight (sum_from add none (open_part add none m parent rank group best p pre) n (suc p)) ≤ sum_of (λ q. cond (nat_lt (parent q) p) (span_of q) 0) n (suc p) =
      weight_sum add none weight weight_add weight_none (open_part add none m parent rank group best p pre) (λ q. cond (nat_lt (parent q) p) (span_of q) 0) n (suc p)
      (λ i l h. open_weight n pre i reach (omega arith) (omega arith)) in
      let d : sum_of (λ u. is_below parent p u * cap u) m 0 + sum_of (λ u. first u * cap u) m 0 ≡ sum_of (λ u. (is_below parent p u + first u) * cap u) m 0 =
      sum_of_join (is_below parent p) first (λ u. is_below parent p u + first u) cap m 0 (λ u. refl) in
      let e : sum_of (λ u. opens u * cap u) m 0 + sum_of (λ u. (is_below parent p u + first u) * cap u) m 0 ≡ sum_of (λ u. (opens u + (is_below parent p u + first u)) * cap u) m 0 =
      sum_of_join opens (λ u. is_below parent p u + first u) (λ u. opens u + (is_below parent p u + first u)) cap m 0 (λ u. refl) in
      let g : sum_of (λ u. (opens u + (is_below parent p u + first u)) * cap u) m 0 ≤ sum_of cap m 0 =
      sum_of_le (λ u. (opens u + (is_below parent p u + first u)) * cap u) cap m 0
      (λ u x y. one_times (opens u + (is_below parent p u + first u)) (cap u) (open_once m parent tree.parents_first n p (suc p) u (omega arith) (omega arith) (omega arith) (omega arith))) in
      omega (arith, weight_add (key_of add none m parent rank group best pre) (sum_from add none (open_part add none m parent rank group best p pre) n (suc p)), a, b, c, open_span n p (suc p), d, e, g)
    where
      one_times : (a c : ℕ) → a ≤ 1 → a * c ≤ c
      one_times a c h = let t : a * c ≤ 1 * c = times_small a 1 c h in omega (arith, t)
