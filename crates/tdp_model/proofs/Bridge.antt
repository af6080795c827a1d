-- The solutions in the order of the nodes, and the subtree solutions of the root, have the same keys.
use Rattle.std.proofs.Common.{◌≡◌, ℕ, zero, suc, ◌+◌, ◌-◌, ◌*◌, ◌<◌, ◌≤◌, ◌⊎◌, cond, nat_eq, nat_lt, List, [], ◌∷◌, ◌++◌, length, get_or, refl, sym, ap, ◌∙◌, subst, inl, inr, arith, append_assoc}
use Rattle.std.proofs.lemmas.Bool.{cases_lt}
use Rattle.tdp_model.specs.KeyLaws.{IsKeys}
use Rattle.tdp_model.specs.Regions.{place_of, stands, completes, is_empty}
use Rattle.tdp_model.specs.TreeProblem.{sum_from, rows_after, rows_key, kid_key, RowHas, GroupHas}
use Rattle.tdp_model.proofs.Subtrees.{cases_eq}
use Rattle.tdp_model.proofs.Division.{place_le, get_place, stands_yes, stands_place, empty_found, times_pos}
use Rattle.tdp_model.proofs.Picks.{pick_eq, pick_ge, pick_ne}
use Rattle.tdp_model.proofs.OpenKeys.{key_end, open_first, open_join, open_key}
use Rattle.tdp_model.proofs.Sums.{get_front, get_end, length_end, none_add, sum_same, sum_add}
use Rattle.std.proofs.lemmas.List.{append-nil}

pos_times : (a b : ℕ) → 0 < a → 0 < b → 0 < a * b
pos_times zero b h i = absurd (omega arith)
pos_times (suc a) zero h i = absurd (omega arith)
pos_times (suc a) (suc b) h i = omega arith

module _ {K : Type 0} (Below : K → K → Type 0) (add : K → K → K) (none : K) (keys : IsKeys K Below add none)
    (m : ℕ) (parent : ℕ → ℕ) (rank : ℕ → ℕ → K) (group : ℕ → ℕ → List ℕ) (parents_first : (q : ℕ) → 0 < q → q < m → parent q < q) where
  -- more depth adds nothing, where the tree reaches no further
  as_deep : (d e v r : ℕ) (k : K) → v < m → m ≤ d + v → m ≤ e + v → RowHas add none m parent rank group d v r k → RowHas add none m parent rank group e v r k
  as_deep zero e v r k l s t h = absurd (omega arith)
  as_deep (suc d) zero v r k l s t h = absurd (omega arith)
  as_deep (suc d) (suc e) v r k l s t h = (
    h.0,
    (λ q a b c. let g : GroupHas add none m parent rank group d q r (h.0 q) = h.1 q a b c in
        (g.0, g.1, as_deep d e q (get_or (group q r) g.0 0) (h.0 q) b (omega arith) (omega arith) g.2)),
    h.2,
  )

  pub deeper : (d v r : ℕ) (k : K) → v < m → m ≤ d + v → RowHas add none m parent rank group d v r k → RowHas add none m parent rank group (suc d) v r k
  deeper d v r k l e = as_deep d (suc d) v r k l e (omega arith)

  pub shallower : (d v r : ℕ) (k : K) → v < m → m ≤ d + v → RowHas add none m parent rank group (suc d) v r k → RowHas add none m parent rank group d v r k
  shallower d v r k l e = as_deep (suc d) d v r k l (omega arith) e

  -- (s + r) + (o + c) is s + ((r + c) + o)
  mix : (s r o c : K) → add (add s r) (add o c) ≡ add s (add (add r c) o)
  mix s r o c = keys.add_assoc s r (add o c) ∙ ap (λ z. add s z) (ap (λ z. add r z) (keys.add_comm o c) ∙ sym (keys.add_assoc r c o))

  next_is_open : (p : ℕ) → p < m → (p ≡ 0) ⊎ (parent p < p)
  next_is_open p l = elim (cases_lt 0 p) [ inl h ↦ inr (parents_first p h l) | inr z ↦ inl (omega arith) ]

  -- the sum over the open nodes, one row on
  sum_join : (n p : ℕ) (f g h : ℕ → K) → ((q : ℕ) → p < q → parent q < p → h q ≡ f q) → ((q : ℕ) → p < q → parent q ≡ p → h q ≡ g q)
      → sum_from add none (open_key none parent (suc p) h) n (suc p) ≡ add (sum_from add none (open_key none parent p f) n (suc p)) (sum_from add none (kid_key none parent p g) n (suc p))
  sum_join n p f g h a b =
      sum_same Below add none keys (open_key none parent (suc p) h) (λ q. add (open_key none parent p f q) (kid_key none parent p g q)) n (suc p)
      (λ q l u. open_join Below add none keys parent p q f g h (omega arith) (a q (omega arith)) (b q (omega arith)))
      ∙ sum_add Below add none keys (open_key none parent p f) (kid_key none parent p g) n (suc p)

  module _ (d : ℕ) (deep : m ≤ d) where
    -- k is the key of the rows `pre` and of one subtree solution of each open node
    abbrev pub OpenHas : ℕ → List ℕ → K → Type 0
    OpenHas n pre k =
        (f : ℕ → K) × ((q : ℕ) → length pre ≤ q → q < m → (q ≡ 0) ⊎ (parent q < length pre) → GroupHas add none m parent rank group (suc d) q (get_or pre (parent q) 0) (f q))
        × (k ≡ add (rows_key add none rank pre) (sum_from add none (open_key none parent (length pre) f) n (length pre)))

    stands_member : (xs : List ℕ) (i : ℕ) → i < length xs → 0 < stands (get_or xs i 0) xs
    stands_member xs i l = omega (arith, stands_yes (get_or xs i 0) xs (omega (arith, place_le i xs l)))

    -- the open nodes after one more row, from those before it
    opened : (n : ℕ) (pre : List ℕ) (k : K) → suc n + length pre ≡ m → (o : OpenHas (suc n) pre k)
        → (i : ℕ) × (i < length (rows_after parent group pre)) × OpenHas n (pre ++ (get_or (rows_after parent group pre) i 0 ∷ [])) k
    unfolding sum_from
    opened n pre k e o =
        let p : ℕ = length pre in
        let f : ℕ → K = o.0 in
        let mine : GroupHas add none m parent rank group (suc d) p (get_or pre (parent p) 0) (f p) = o.1 p (omega arith) (omega arith) (next_is_open p (omega arith)) in
        let r : ℕ = get_or (rows_after parent group pre) mine.0 0 in
        let own : RowHas add none m parent rank group (suc d) p r (f p) = mine.2 in
        let g : ℕ → K = own.0 in
        let h : ℕ → K = λ q. cond (nat_eq (parent q) p) (g q) (f q) in
        let len : length (pre ++ (r ∷ [])) ≡ suc p = length_end pre r in
        let left : m - suc p ≡ n = omega arith in
        let was : (q : ℕ) → parent q < p → h q ≡ f q = λ q l. pick_ne (parent q) p (g q) (f q) (λ s. omega arith) in
        let now : (q : ℕ) → parent q ≡ p → h q ≡ g q = λ q s. pick_eq (parent q) p (g q) (f q) s in
        let sums : sum_from add none (open_key none parent (suc p) h) n (suc p)
        ≡ add (sum_from add none (open_key none parent p f) n (suc p)) (sum_from add none (kid_key none parent p g) n (suc p)) = sum_join n p f g h (λ q l. was q) (λ q l. now q) in
        let key : k ≡ add (rows_key add none rank (pre ++ (r ∷ []))) (sum_from add none (open_key none parent (suc p) h) n (suc p)) =
        o.2
        ∙ ap (λ z. add (rows_key add none rank pre) (add z (sum_from add none (open_key none parent p f) n (suc p))))
        (open_first none parent p f (λ h. parents_first p h (omega arith)) ∙ own.2 ∙ ap (λ z. add (rank p r) (sum_from add none (kid_key none parent p g) z (suc p))) left)
        ∙ sym (mix (rows_key add none rank pre) (rank p r) (sum_from add none (open_key none parent p f) n (suc p)) (sum_from add none (kid_key none parent p g) n (suc p)))
        ∙ ap (λ z. add z (add (sum_from add none (open_key none parent p f) n (suc p)) (sum_from add none (kid_key none parent p g) n (suc p)))) (sym (key_end Below add none keys rank pre r))
        ∙ ap (λ z. add (rows_key add none rank (pre ++ (r ∷ []))) z) (sym sums) in (
          mine.0,
          mine.1,
          (
            h,
            (λ q a b c. elim (cases_lt (parent q) p) [
              | inl l ↦
                  let t : GroupHas add none m parent rank group (suc d) q (get_or pre (parent q) 0) (f q) = o.1 q (omega arith) b (inr l) in
                  subst (λ z. GroupHas add none m parent rank group (suc d) q z (h q)) (sym (get_front pre (r ∷ []) (parent q) l))
                  (subst (λ z. GroupHas add none m parent rank group (suc d) q (get_or pre (parent q) 0) z) (sym (was q l)) t)
              | inr l ↦
                  let s : parent q ≡ p = elim c [ inl z ↦ absurd (omega arith) | inr z ↦ omega arith ] in
                  let t : GroupHas add none m parent rank group d q r (g q) = own.1 q (omega arith) b s in
                  let u : GroupHas add none m parent rank group (suc d) q r (g q) = (t.0, t.1, deeper d q (get_or (group q r) t.0 0) (g q) b (omega arith) t.2) in
                  subst (λ z. GroupHas add none m parent rank group (suc d) q z (h q)) (sym (get_end pre r (parent q) s))
                  (subst (λ z. GroupHas add none m parent rank group (suc d) q r z) (sym (now q s)) u)
            ]),
            subst (λ z. k ≡ add (rows_key add none rank (pre ++ (r ∷ []))) (sum_from add none (open_key none parent z h) n z)) (sym len) key,
          ),
        )

    -- keys of subtree solutions of the open nodes make a solution
    pub solution_of : (n : ℕ) (pre : List ℕ) (k : K) → n + length pre ≡ m → OpenHas n pre k
        → (t : List ℕ) × (0 < completes (rows_after parent group) n pre t) × (rows_key add none rank (pre ++ t) ≡ k)
    unfolding completes sum_from is_empty
    solution_of zero pre k e o = ([], omega arith, ap (λ z. rows_key add none rank z) (append-nil pre) ∙ sym (keys.add_none _) ∙ sym o.2)
    solution_of (suc n) pre k e o =
        let s : (i : ℕ) × (i < length (rows_after parent group pre)) × OpenHas n (pre ++ (get_or (rows_after parent group pre) i 0 ∷ [])) k = opened n pre k e o in
        let r : ℕ = get_or (rows_after parent group pre) s.0 0 in
        let t : (t : List ℕ) × (0 < completes (rows_after parent group) n (pre ++ (r ∷ [])) t) × (rows_key add none rank ((pre ++ (r ∷ [])) ++ t) ≡ k) =
        solution_of n (pre ++ (r ∷ [])) k (omega (arith, length_end pre r)) s.2 in (
          r ∷ t.0,
          pos_times _ _ (stands_member (rows_after parent group pre) s.0 s.1) t.1,
          ap (λ z. rows_key add none rank z) (sym (append_assoc pre (r ∷ []) t.0)) ∙ t.2,
        )

    -- the open nodes before a row, from those after it
    closed : (n : ℕ) (pre : List ℕ) (k : K) (i : ℕ) → suc n + length pre ≡ m → i < length (rows_after parent group pre)
        → OpenHas n (pre ++ (get_or (rows_after parent group pre) i 0 ∷ [])) k → OpenHas (suc n) pre k
    unfolding sum_from
    closed n pre k i e il o =
        let p : ℕ = length pre in
        let r : ℕ = get_or (rows_after parent group pre) i 0 in
        let h : ℕ → K = o.0 in
        let len : length (pre ++ (r ∷ [])) ≡ suc p = length_end pre r in
        let left : n ≡ m - suc p = omega arith in
        let c : K = sum_from add none (kid_key none parent p h) n (suc p) in
        let mine : K = add (rank p r) c in
        let f : ℕ → K = λ q. cond (nat_eq q p) mine (h q) in
        let at : f p ≡ mine = pick_eq p p mine (h p) refl in
        let later : (q : ℕ) → p < q → h q ≡ f q = λ q l. sym (pick_ne q p mine (h q) (λ s. omega arith)) in
        let kids : (q : ℕ) → p < q → q < m → parent q ≡ p → GroupHas add none m parent rank group d q r (h q) = λ q l b s.
        let t : GroupHas add none m parent rank group (suc d) q (get_or (pre ++ (r ∷ [])) (parent q) 0) (h q) = o.1 q (omega arith) b (inr (omega arith)) in
        let u : GroupHas add none m parent rank group (suc d) q r (h q) = subst (λ z. GroupHas add none m parent rank group (suc d) q z (h q)) (get_end pre r (parent q) s) t in
        (u.0, u.1, shallower d q (get_or (group q r) u.0 0) (h q) b (omega arith) u.2) in
        let own : RowHas add none m parent rank group (suc d) p r mine = (h, kids, ap (λ z. add (rank p r) (sum_from add none (kid_key none parent p h) z (suc p))) left) in
        let sums : sum_from add none (open_key none parent (suc p) h) n (suc p) ≡ add (sum_from add none (open_key none parent p f) n (suc p)) c = sum_join n p f h h (λ q l s. later q l) (λ q l s. refl) in
        let was : k ≡ add (rows_key add none rank (pre ++ (r ∷ []))) (sum_from add none (open_key none parent (suc p) h) n (suc p)) =
        subst (λ z. k ≡ add (rows_key add none rank (pre ++ (r ∷ []))) (sum_from add none (open_key none parent z h) n z)) len o.2 in (
          f,
          (λ q a b s. elim (cases_eq q p) [
            | inl x ↦
                let t : GroupHas add none m parent rank group (suc d) p (get_or pre (parent p) 0) (f p) =
                (i, il, subst (λ z. RowHas add none m parent rank group (suc d) p r z) (sym at) own) in
                subst (λ z. GroupHas add none m parent rank group (suc d) z (get_or pre (parent z) 0) (f z)) (sym x) t
            | inr x ↦
                let l : parent q < p = elim s [ inl z ↦ absurd (x (omega arith)) | inr z ↦ z ] in
                let t : GroupHas add none m parent rank group (suc d) q (get_or (pre ++ (r ∷ [])) (parent q) 0) (h q) = o.1 q (omega arith) b (inr (omega arith)) in
                subst (λ z. GroupHas add none m parent rank group (suc d) q (get_or pre (parent q) 0) z) (later q (omega arith))
                (subst (λ z. GroupHas add none m parent rank group (suc d) q z (h q)) (get_front pre (r ∷ []) (parent q) l) t)
          ]),
          was
              ∙ ap (λ z. add z (sum_from add none (open_key none parent (suc p) h) n (suc p))) (key_end Below add none keys rank pre r)
              ∙ ap (λ z. add (add (rows_key add none rank pre) (rank p r)) z) sums
              ∙ mix (rows_key add none rank pre) (rank p r) (sum_from add none (open_key none parent p f) n (suc p)) c
              ∙ ap (λ z. add (rows_key add none rank pre) (add z (sum_from add none (open_key none parent p f) n (suc p)))) (sym at ∙ sym (open_first none parent p f (λ h. parents_first p h (omega arith)))),
        )

    pub keys_of : (n : ℕ) (pre t : List ℕ) → n + length pre ≡ m → 0 < completes (rows_after parent group) n pre t → OpenHas n pre (rows_key add none rank (pre ++ t))
    unfolding completes sum_from
    keys_of zero pre t e h = (
      (λ q. none),
      (λ q a b c. absurd (omega arith)),
      ap (λ z. rows_key add none rank (pre ++ z)) (empty_found t h) ∙ ap (λ z. rows_key add none rank z) (append-nil pre) ∙ sym (keys.add_none _),
    )
    keys_of (suc n) pre [] e h = absurd (omega arith)
    keys_of (suc n) pre (r ∷ rest) e h =
        let both : (0 < stands r (rows_after parent group pre)) × (0 < completes (rows_after parent group) n (pre ++ (r ∷ [])) rest) = times_pos _ _ h in
        let l : place_of r (rows_after parent group pre) < length (rows_after parent group pre) = stands_place r (rows_after parent group pre) both.0 in
        let g : get_or (rows_after parent group pre) (place_of r (rows_after parent group pre)) 0 ≡ r = get_place r (rows_after parent group pre) l in
        let o : OpenHas n (pre ++ (r ∷ [])) (rows_key add none rank ((pre ++ (r ∷ [])) ++ rest)) = keys_of n (pre ++ (r ∷ [])) rest (omega (arith, length_end pre r)) both.1 in
        subst (λ z. OpenHas (suc n) pre (rows_key add none rank z)) (append_assoc pre (r ∷ []) rest)
        (closed n pre (rows_key add none rank ((pre ++ (r ∷ [])) ++ rest)) (place_of r (rows_after parent group pre)) e l
        (subst (λ z. OpenHas n (pre ++ (z ∷ [])) (rows_key add none rank ((pre ++ (r ∷ [])) ++ rest))) (sym g) o))

    nothing_open : (n q : ℕ) (f : ℕ → K) → 0 < q → sum_from add none (open_key none parent 0 f) n q ≡ none
    unfolding sum_from open_key
    nothing_open zero q f l = refl
    nothing_open (suc n) q f l =
        ap (λ z. add z (sum_from add none (open_key none parent 0 f) n (suc q)))
        (pick_ne q 0 (f q) (cond (nat_lt (parent q) 0) (f q) none) (λ e. omega arith) ∙ pick_ge (parent q) 0 (f q) none (omega arith))
        ∙ none_add Below add none keys _
        ∙ nothing_open n (suc q) f (omega arith)

    open_root : (n : ℕ) (f : ℕ → K) → add (rows_key add none rank []) (sum_from add none (open_key none parent 0 f) (suc n) 0) ≡ f 0
    unfolding sum_from open_key
    open_root n f =
        none_add Below add none keys _
        ∙ ap (λ z. add z (sum_from add none (open_key none parent 0 f) n 1)) (pick_eq 0 0 (f 0) (cond (nat_lt (parent 0) 0) (f 0) none) refl)
        ∙ ap (λ z. add (f 0) z) (nothing_open n 1 f (omega arith))
        ∙ keys.add_none (f 0)

    -- The keys of the subtree solutions of the root's group are the keys of the solutions.
    pub solution_of_root : (n : ℕ) (k : K) → suc n ≡ m → GroupHas add none m parent rank group (suc d) 0 0 k
        → (t : List ℕ) × (0 < completes (rows_after parent group) (suc n) [] t) × (rows_key add none rank t ≡ k)
    solution_of_root n k e g =
        let f : ℕ → K = λ q. cond (nat_eq q 0) k none in
        let at : f 0 ≡ k = pick_eq 0 0 k none refl in
        solution_of (suc n) [] k (omega arith) (
          f,
          (λ q a b s. elim (cases_eq q 0) [
            | inl x ↦ subst (λ z. GroupHas add none m parent rank group (suc d) z 0 (f z)) (sym x) (subst (λ z. GroupHas add none m parent rank group (suc d) 0 0 z) (sym at) g)
            | inr x ↦ elim s [ inl z ↦ absurd (x z) | inr z ↦ absurd (omega arith) ]
          ]),
          sym at ∙ sym (open_root n f),
        )

    pub root_of_solution : (n : ℕ) (t : List ℕ) → suc n ≡ m → 0 < completes (rows_after parent group) (suc n) [] t → GroupHas add none m parent rank group (suc d) 0 0 (rows_key add none rank t)
    root_of_solution n t e h =
        let o : OpenHas (suc n) [] (rows_key add none rank t) = keys_of (suc n) [] t (omega arith) h in
        subst (λ z. GroupHas add none m parent rank group (suc d) 0 0 z) (sym (o.2 ∙ open_root n o.0)) (o.1 0 (omega arith) (omega arith) (inl refl))
