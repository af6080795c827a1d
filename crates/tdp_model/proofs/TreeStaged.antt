-- A well-formed tree is answered one row after the other, with the least key of what begins with the rows as bound.
use Rattle.std.proofs.Common.{◌≡◌, ℕ, suc, ◌+◌, ◌-◌, ◌/◌, ◌<◌, List, [], ◌∷◌, ◌++◌, length, get_or, refl, sym, ap, ◌∙◌, subst, inl, inr, arith}
use Rattle.std.proofs.lemmas.Bool.{cases_lt}
use Rattle.tdp_model.specs.KeyLaws.{IsKeys}
use Rattle.tdp_model.specs.Remains.{AtMost}
use Rattle.tdp_model.specs.StagedProblem.{IsStaged}
use Rattle.tdp_model.specs.TreeProblem.{kid_key, sum_from, least_of, kid_part, members_after, open_part, key_of, bound_of, IsAbove, IsTree, IsReached}
use Rattle.tdp_model.proofs.Keys.{add_at_most, cancel, cancel_at_most}
use Rattle.tdp_model.proofs.OpenKeys.{key_end, open_first, open_join, open_key}
use Rattle.tdp_model.proofs.Sums.{get_front, get_end, length_end, add_swap, add_right, sum_same, sum_add}

module _ {K : Type 0} (Below : K → K → Type 0) (add : K → K → K) (none : K) (keys : IsKeys K Below add none)
    (m : ℕ) (parent : ℕ → ℕ) (rank : ℕ → ℕ → K) (group : ℕ → ℕ → List ℕ) (best : ℕ → ℕ → K) (IsRow : ℕ → ℕ → Type 0)
    (tree : IsTree K Below add none m parent rank group best IsRow) where
  -- a later node is open after one more row where it was open before, or is a child of the node that was chosen
  open_next : (pre : List ℕ) (r q : ℕ) → length pre < q → open_part add none m parent rank group best (suc (length pre)) (pre ++ (r ∷ [])) q
      ≡ add (open_part add none m parent rank group best (length pre) pre q) (kid_part add none m parent rank group best (length pre) r q)
  unfolding open_part kid_part open_key kid_key
  open_next pre r q l =
      let least : ℕ → ℕ → K = λ v z. least_of add none m parent rank group best v z in
      open_join Below add none keys parent (length pre) q (λ v. least v (get_or pre (parent v) 0)) (λ v. least v r) (λ v. least v (get_or (pre ++ (r ∷ [])) (parent v) 0)) l
      (λ a. ap (least q) (get_front pre (r ∷ []) (parent q) a)) (λ e. ap (least q) (get_end pre r (parent q) e))

  rest_of : ℕ → ℕ → List ℕ → ℕ → K
  rest_of n p pre q = sum_from add none (open_part add none m parent rank group best p pre) n q

  -- the bound, with the number of nodes that are left
  bound_left : (n : ℕ) (pre : List ℕ) → n + length pre ≡ m → bound_of add none m parent rank group best pre ≡ add (key_of add none m parent rank group best pre) (rest_of n (length pre) pre (length pre))
  unfolding rest_of
  bound_left n pre e =
      let d : m - length pre ≡ n = omega arith in
      ap (λ z. add (key_of add none m parent rank group best pre) (sum_from add none (open_part add none m parent rank group best (length pre) pre) z (length pre))) d

  -- the node that is next is open
  open_here : (pre : List ℕ) → length pre < m → open_part add none m parent rank group best (length pre) pre (length pre) ≡ least_of add none m parent rank group best (length pre) (get_or pre (parent (length pre)) 0)
  unfolding open_part open_key
  open_here pre l = open_first none parent (length pre) (λ v. least_of add none m parent rank group best v (get_or pre (parent v) 0)) (λ p. tree.parents_first (length pre) p l)

  rest_next : (n : ℕ) (pre : List ℕ) (r : ℕ) → suc n + length pre ≡ m → rest_of n (suc (length pre)) (pre ++ (r ∷ [])) (suc (length pre))
      ≡ add (rest_of n (length pre) pre (suc (length pre))) (sum_from add none (kid_part add none m parent rank group best (length pre) r) n (suc (length pre)))
  unfolding rest_of
  rest_next n pre r e =
      sum_same Below add none keys _ (λ q. add (open_part add none m parent rank group best (length pre) pre q) (kid_part add none m parent rank group best (length pre) r q)) n (suc (length pre))
      (λ q l h. open_next pre r q (omega arith))
      ∙ sum_add Below add none keys (open_part add none m parent rank group best (length pre) pre) (kid_part add none m parent rank group best (length pre) r) n (suc (length pre))

  -- One more row takes the place of its group's best by its own.
  pub bound_next : (n : ℕ) (pre : List ℕ) (r : ℕ) → suc n + length pre ≡ m → IsRow (length pre) r
      → add (bound_of add none m parent rank group best (pre ++ (r ∷ []))) (least_of add none m parent rank group best (length pre) (get_or pre (parent (length pre)) 0))
      ≡ add (bound_of add none m parent rank group best pre) (best (length pre) r)
  unfolding rest_of sum_from
  bound_next n pre r e row =
      let p : ℕ = length pre in
      let h : K = least_of add none m parent rank group best p (get_or pre (parent p) 0) in
      let s : K = key_of add none m parent rank group best pre in
      let o : K = rest_of n p pre (suc p) in
      let c : K = sum_from add none (kid_part add none m parent rank group best p r) n (suc p) in
      let q : K = rank p r in
      let d : m - suc p ≡ n = omega arith in
      let new : bound_of add none m parent rank group best (pre ++ (r ∷ [])) ≡ add (add s q) (add o c) =
      bound_left n (pre ++ (r ∷ [])) (omega (arith, length_end pre r))
      ∙ ap (λ z. add z (rest_of n (length (pre ++ (r ∷ []))) (pre ++ (r ∷ [])) (length (pre ++ (r ∷ []))))) (key_end Below add none keys rank pre r)
      ∙ ap (λ k. add (add s q) (rest_of n k (pre ++ (r ∷ [])) k)) (length_end pre r)
      ∙ ap (λ z. add (add s q) z) (rest_next n pre r e) in
      let old : bound_of add none m parent rank group best pre ≡ add s (add h o) =
      bound_left (suc n) pre e ∙ ap (λ z. add s (add z o)) (open_here pre (omega arith)) in
      let own : best p r ≡ add q c =
      tree.bests p r (omega arith) row ∙ ap (λ k. add q (sum_from add none (kid_part add none m parent rank group best p r) k (suc p))) d in
      ap (λ z. add z h) (new ∙ add_swap Below add none keys s q o c)
      ∙ add_right Below add none keys (add s o) (add q c) h
      ∙ ap (λ z. add z (add q c)) (keys.add_assoc s o h ∙ ap (λ z. add s z) (keys.add_comm o h))
      ∙ ap (λ z. add z (add q c)) (sym old)
      ∙ ap (λ z. add (bound_of add none m parent rank group best pre) z) (sym own)

  above : (n : ℕ) (pre : List ℕ) → IsReached m IsRow (suc n) pre → IsAbove parent IsRow (length pre) (get_or pre (parent (length pre)) 0)
  above n pre reach = elim (cases_lt 0 (length pre)) [
    | inl p ↦ inr (reach.1 (parent (length pre)) (tree.parents_first (length pre) p (omega (arith, reach.0))))
    | inr z ↦ inl (omega arith)
  ]

  row_next : (n : ℕ) (pre : List ℕ) (r : ℕ) → IsReached m IsRow (suc n) pre → IsRow (length pre) r → IsReached m IsRow n (pre ++ (r ∷ []))
  row_next n pre r reach row = (
    omega (arith, reach.0, length_end pre r),
    λ q l. elim (cases_lt q (length pre)) [
      | inl a ↦ subst (λ z. IsRow q z) (sym (get_front pre (r ∷ []) q a)) (reach.1 q a)
      | inr b ↦
          let e : q ≡ length pre = omega (arith, length_end pre r, l) in
          subst (λ z. IsRow q z) (sym (get_end pre r q e)) (subst (λ k. IsRow k r) (sym e) row)
    ],
  )

  pub tree_staged : IsStaged K Below (members_after add none m parent rank group best) (bound_of add none m parent rank group best) (IsReached m IsRow)
  tree_staged = record {
    step = λ n pre i reach l. row_next n pre _ reach (tree.rows (length pre) _ i (omega (arith, reach.0)) (above n pre reach) l);
    distinct = λ n pre reach. tree.distinct (length pre) _ (omega (arith, reach.0)) (above n pre reach);
    inhabited = λ n pre reach. tree.inhabited (length pre) _ (omega (arith, reach.0)) (above n pre reach);
    first = λ n pre reach.
        let l : 0 < length (members_after add none m parent rank group best pre) = tree.inhabited (length pre) _ (omega (arith, reach.0)) (above n pre reach) in
        cancel Below add none keys _ _ _ (bound_next n pre _ reach.0 (tree.rows (length pre) _ 0 (omega (arith, reach.0)) (above n pre reach) l));
    heap = λ n pre i reach p l.
        let x : ℕ = get_or (members_after add none m parent rank group best pre) ((i - 1) / 2) 0 in
        let y : ℕ = get_or (members_after add none m parent rank group best pre) i 0 in
        let h : K = least_of add none m parent rank group best (length pre) (get_or pre (parent (length pre)) 0) in
        let a : IsAbove parent IsRow (length pre) (get_or pre (parent (length pre)) 0) = above n pre reach in
        let ex : add (bound_of add none m parent rank group best (pre ++ (x ∷ []))) h ≡ add (bound_of add none m parent rank group best pre) (best (length pre) x) =
        bound_next n pre x reach.0 (tree.rows (length pre) _ ((i - 1) / 2) (omega (arith, reach.0)) a (omega arith)) in
        let ey : add (bound_of add none m parent rank group best (pre ++ (y ∷ []))) h ≡ add (bound_of add none m parent rank group best pre) (best (length pre) y) =
        bound_next n pre y reach.0 (tree.rows (length pre) _ i (omega (arith, reach.0)) a l) in
        cancel_at_most Below add none keys _ _ h
        (subst (λ z. AtMost Below z (add (bound_of add none m parent rank group best (pre ++ (y ∷ []))) h)) (sym ex)
        (subst (λ z. AtMost Below (add (bound_of add none m parent rank group best pre) (best (length pre) x)) z) (sym ey)
        (add_at_most Below add none keys _ _ _ _ (inr refl) (tree.heap (length pre) _ i (omega (arith, reach.0)) a p l))));
  }

  -- the bound of a whole solution is its key
  pub bound_whole : (s : List ℕ) → length s ≡ m → bound_of add none m parent rank group best s ≡ key_of add none m parent rank group best s
  unfolding sum_from rest_of
  bound_whole s e = bound_left 0 s (omega arith) ∙ keys.add_none _

  -- what a bound has beside the best of the row at the position: the rows before it, and the bests of the other open nodes
  unfoldable pub other_of : ℕ → List ℕ → K
  other_of n pre = add (key_of add none m parent rank group best pre) (sum_from add none (open_part add none m parent rank group best (length pre) pre) n (suc (length pre)))

  -- The total less the old best is the same for every row of the group.
  pub bound_parts : (n : ℕ) (pre : List ℕ) (r : ℕ) → suc n + length pre ≡ m → IsRow (length pre) r
      → bound_of add none m parent rank group best (pre ++ (r ∷ [])) ≡ add (other_of n pre) (best (length pre) r)
  unfolding rest_of sum_from other_of
  bound_parts n pre r e row =
      let p : ℕ = length pre in
      let s : K = key_of add none m parent rank group best pre in
      let o : K = rest_of n p pre (suc p) in
      let c : K = sum_from add none (kid_part add none m parent rank group best p r) n (suc p) in
      let q : K = rank p r in
      let d : m - suc p ≡ n = omega arith in
      bound_left n (pre ++ (r ∷ [])) (omega (arith, length_end pre r))
      ∙ ap (λ z. add z (rest_of n (length (pre ++ (r ∷ []))) (pre ++ (r ∷ [])) (length (pre ++ (r ∷ []))))) (key_end Below add none keys rank pre r)
      ∙ ap (λ k. add (add s q) (rest_of n k (pre ++ (r ∷ [])) k)) (length_end pre r)
      ∙ ap (λ z. add (add s q) z) (rest_next n pre r e)
      ∙ add_swap Below add none keys s q o c
      ∙ ap (λ z. add (add s o) z) (sym (tree.bests p r (omega arith) row ∙ ap (λ k. add q (sum_from add none (kid_part add none m parent rank group best p r) k (suc p))) d))
