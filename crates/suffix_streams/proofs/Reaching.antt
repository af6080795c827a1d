-- What an entry of a group's queue stands for, divided as the queue passes it.
use Rattle.std.proofs.Common.{◌≡◌, ◌≢◌, ℕ, zero, suc, ◌+◌, ◌-◌, ◌*◌, ◌<◌, ◌≤◌, cond, nat_eq, nat_lt, nat_le, List, [], ◌∷◌, length, get_or, refl, sym, ap, ◌∙◌, subst, inl, inr, arith}
use Rattle.std.proofs.lemmas.Bool.{cases_lt, cases_eq}
use Rattle.std.proofs.lemmas.Bool.Decides.{nat_tests}
use Rattle.rankings.specs.Order.{IsAscending}
use Rattle.tdp_model.specs.Remains.{AtMost, total}
use Rattle.tdp_model.specs.Heap.{under}
use Rattle.tdp_model.specs.KeyTuple.{KeyOf, key_below, key_none}
use Rattle.tdp_model.specs.Product.{Pair, same_pair, is_run, runs_to, run_key}
use Rattle.tdp_model.proofs.Subtrees.{same, climbs_split, climbs_above, climbs_all, climbs_ordered}
use Rattle.tdp_model.proofs.Keys.{at_most_trans, ascending_at_most}
use Rattle.tdp_model.proofs.KeyTuples.{tuple_keys}
use Rattle.tdp_model.proofs.Runs.{run_divided, runs_none}
use Rattle.suffix_streams.specs.Ahead.{AllInside}
use Rattle.suffix_streams.specs.QueueEntries.{InRuns}
use Rattle.suffix_streams.specs.Reaches.{reaches, AreHeapOrdered}

-- a later solution stands for the rest of its member's list
reaches_later : (m : ℕ) (sizes : ℕ → ℕ) (f p : Pair) → f.right ≢ 0 → reaches m sizes f p ≡ runs_to m sizes f p
unfolding reaches runs_to
reaches_later m sizes f p n = at f.right (is_run m sizes p) (under f.left p.left) (cond (nat_eq f.left p.left) (cond (nat_le f.right p.right) 1 0) 0) n
  where
    at : (j a u w : ℕ) → j ≢ 0 → a * cond (nat_eq j 0) u w ≡ a * w
    at j a u w n = grind (arith, nat_tests)

-- a first solution stands for all of the members below it
reaches_first : (m : ℕ) (sizes : ℕ → ℕ) (j : ℕ) (p : Pair) → reaches m sizes (record { left = j; right = 0 }) p ≡ is_run m sizes p * under j p.left
unfolding reaches
reaches_first m sizes j p = refl

-- an entry of a member past the end stands for none
pub reaches_past : (m : ℕ) (sizes : ℕ → ℕ) (j : ℕ) (p : Pair) → m ≤ j → reaches m sizes (record { left = j; right = 0 }) p ≡ 0
reaches_past m sizes j p l = reaches_first m sizes j p ∙ elim (cases_lt p.left m) [
  | inl a ↦ by_right (is_run m sizes p) (under j p.left) (climbs_above p.left p.left j (omega arith))
  | inr b ↦ by_left p.left m (cond (nat_lt p.right (sizes p.left)) 1 0) (under j p.left) (omega arith)
]
  where
    by_right : (a u : ℕ) → u ≡ 0 → a * u ≡ 0
    by_right a u e = grind arith

    by_left : (x m w u : ℕ) → m ≤ x → cond (nat_lt x m) w 0 * u ≡ 0
    by_left x m w u l = grind (arith, nat_tests)

-- A member's first solution is passed: the rest of its list is left, and the members below it.
first_split : (m : ℕ) (sizes : ℕ → ℕ) (j : ℕ) (p : Pair) → j < m → 0 < sizes j → reaches m sizes (record { left = j; right = 0 }) p
    ≡ same_pair (record { left = j; right = 0 }) p
    + (reaches m sizes (record { left = j; right = 1 }) p + (reaches m sizes (record { left = 2 * j + 1; right = 0 }) p + reaches m sizes (record { left = 2 * j + 2; right = 0 }) p))
unfolding runs_to total
first_split m sizes j p l some =
    omega (
      arith,
      reaches_first m sizes j p,
      reaches_first m sizes (2 * j + 1) p,
      reaches_first m sizes (2 * j + 2) p,
      reaches_later m sizes (record { left = j; right = 1 }) p one_not_zero,
      apart (is_run m sizes p) (under j p.left) (same p.left j) (under (2 * j + 1) p.left) (under (2 * j + 2) p.left) (climbs_split p.left p.left j (omega arith)),
      own m (sizes p.left) j p.left p.right l (λ e. subst (λ k. 0 < sizes k) e some),
    )
  where
    one_not_zero : (let n : ℕ = 1 in n ≢ 0)
    one_not_zero e = omega arith

    apart : (a u s v w : ℕ) → u ≡ s + (v + w) → a * u ≡ a * s + (a * v + a * w)
    apart a u s v w e = ap (λ z. a * z) e ∙ over a s v w
      where
        over : (a s v w : ℕ) → a * (s + (v + w)) ≡ a * s + (a * v + a * w)
        over a s v w = omega arith

    own : (m n j x y : ℕ) → j < m → (j ≡ x → 0 < n) →
        cond (nat_lt x m) (cond (nat_lt y n) 1 0) 0 * cond (nat_eq x j) 1 0
        ≡ cond (nat_eq j x) (cond (nat_eq 0 y) 1 0) 0 + cond (nat_lt x m) (cond (nat_lt y n) 1 0) 0 * cond (nat_eq j x) (cond (nat_le 1 y) 1 0) 0
    own m n j x y a b = elim (cases_eq j x) [ inl e ↦ here m n j x y a e (b e) | inr d ↦ there m n j x y d ]
      where
        here : (m n j x y : ℕ) → j < m → j ≡ x → 0 < n →
            cond (nat_lt x m) (cond (nat_lt y n) 1 0) 0 * cond (nat_eq x j) 1 0
            ≡ cond (nat_eq j x) (cond (nat_eq 0 y) 1 0) 0 + cond (nat_lt x m) (cond (nat_lt y n) 1 0) 0 * cond (nat_eq j x) (cond (nat_le 1 y) 1 0) 0
        here m n j x y a e b = grind (arith, nat_tests)

        there : (m n j x y : ℕ) → j ≢ x →
            cond (nat_lt x m) (cond (nat_lt y n) 1 0) 0 * cond (nat_eq x j) 1 0
            ≡ cond (nat_eq j x) (cond (nat_eq 0 y) 1 0) 0 + cond (nat_lt x m) (cond (nat_lt y n) 1 0) 0 * cond (nat_eq j x) (cond (nat_le 1 y) 1 0) 0
        there m n j x y d = grind (arith, nat_tests)

-- An entry is passed: the rest of its member's list is left, and after a first solution the members below it.
pub reaches_split : (d m : ℕ) (lists : ℕ → List (KeyOf d 16)) → ((r : ℕ) → r < m → IsAscending (key_below d 16) (lists r)) → (f p : Pair) → InRuns d m lists f → reaches m (λ r. length (lists r)) f p
    ≡ same_pair f p
    + (reaches m (λ r. length (lists r)) (record { left = f.left; right = f.right + 1 }) p
    + cond (nat_eq f.right 0) (reaches m (λ r. length (lists r)) (record { left = 2 * f.left + 1; right = 0 }) p) 0
    + cond (nat_eq f.right 0) (reaches m (λ r. length (lists r)) (record { left = 2 * f.left + 2; right = 0 }) p) 0)
unfolding total
reaches_split d m lists asc f p inside = elim (cases_eq f.right 0) [
  | inl e ↦
      let first : f ≡ record { left = f.left; right = 0 } = ap (λ z. (let q : Pair = record { left = f.left; right = z } in q)) e in
      let next : (let q : Pair = record { left = f.left; right = f.right + 1 } in q) ≡ record { left = f.left; right = 1 } = ap (λ z. (let q : Pair = record { left = f.left; right = z + 1 } in q)) e in
      omega (
        arith,
        first_split m (λ r. length (lists r)) f.left p inside.0 (omega (arith, inside.1)),
        ap (λ z. reaches m (λ r. length (lists r)) z p) first,
        ap (λ z. same_pair z p) first,
        ap (λ z. reaches m (λ r. length (lists r)) z p) next,
        at_zero f.right (reaches m (λ r. length (lists r)) (record { left = 2 * f.left + 1; right = 0 }) p) e,
        at_zero f.right (reaches m (λ r. length (lists r)) (record { left = 2 * f.left + 2; right = 0 }) p) e,
      )
  | inr n ↦
      omega (
        arith,
        (run_divided (key_below d 16) (tuple_keys d 16).order (key_none d 16) m lists asc f inside.0 inside.1).split p,
        reaches_later m (λ r. length (lists r)) f p n,
        reaches_later m (λ r. length (lists r)) (record { left = f.left; right = f.right + 1 }) p (λ e. omega arith),
        at_other f.right (reaches m (λ r. length (lists r)) (record { left = 2 * f.left + 1; right = 0 }) p) n,
        at_other f.right (reaches m (λ r. length (lists r)) (record { left = 2 * f.left + 2; right = 0 }) p) n,
      )
]
  where
    at_zero : (j x : ℕ) → j ≡ 0 → cond (nat_eq j 0) x 0 ≡ x
    at_zero j x e = grind (arith, nat_tests)

    at_other : (j x : ℕ) → j ≢ 0 → cond (nat_eq j 0) x 0 ≡ 0
    at_other j x e = grind (arith, nat_tests)

-- the first solution of the first member stands for all
pub root_stands : (m : ℕ) (sizes : ℕ → ℕ) (p : Pair) → reaches m sizes (record { left = 0; right = 0 }) p ≡ is_run m sizes p
root_stands m sizes p = reaches_first m sizes 0 p ∙ at (is_run m sizes p) (under 0 p.left) (climbs_all p.left p.left (omega arith))
  where
    at : (a u : ℕ) → u ≡ 1 → a * u ≡ a
    at a u e = grind arith

-- an entry past its list's end stands for none
pub later_none : (m : ℕ) (sizes : ℕ → ℕ) (i j : ℕ) (p : Pair) → sizes i ≤ j + 1 → reaches m sizes (record { left = i; right = j + 1 }) p ≡ 0
later_none m sizes i j p l = reaches_later m sizes (record { left = i; right = j + 1 }) p (λ e. omega arith) ∙ runs_none m sizes (record { left = i; right = j + 1 }) p l

reached_run : (m n x y u : ℕ) → 0 < cond (nat_lt x m) (cond (nat_lt y n) 1 0) 0 * u → (x < m) × (y < n) × (0 < u)
reached_run m n x y u h = (grind (arith, nat_tests), grind (arith, nat_tests), grind (arith, nat_tests))

-- What an entry stands for is not before it.
pub reaches_least : (d m : ℕ) (lists : ℕ → List (KeyOf d 16)) → ((r : ℕ) → r < m → IsAscending (key_below d 16) (lists r)) → AreHeapOrdered d m lists → (f p : Pair) → InRuns d m lists f
    → 0 < reaches m (λ r. length (lists r)) f p → AtMost (key_below d 16) (run_key (key_none d 16) lists f) (run_key (key_none d 16) lists p)
reaches_least d m lists asc heap f p inside h = elim (cases_eq f.right 0) [
  | inl e ↦
      let first : f ≡ record { left = f.left; right = 0 } = ap (λ z. (let q : Pair = record { left = f.left; right = z } in q)) e in
      let r : (p.left < m) × (p.right < length (lists p.left)) × (0 < under f.left p.left) =
      reached_run m (length (lists p.left)) p.left p.right (under f.left p.left) (omega (arith, h, ap (λ z. reaches m (λ r. length (lists r)) z p) first, reaches_first m (λ r. length (lists r)) f.left p)) in
      subst (λ z. AtMost (key_below d 16) (run_key (key_none d 16) lists z) (run_key (key_none d 16) lists p)) (sym first)
      (at_most_trans (key_below d 16) (tuple_keys d 16).order (get_or (lists f.left) 0 (key_none d 16)) (get_or (lists p.left) 0 (key_none d 16)) (get_or (lists p.left) p.right (key_none d 16))
      (climbs_ordered (λ a b. AtMost (key_below d 16) (get_or (lists a) 0 (key_none d 16)) (get_or (lists b) 0 (key_none d 16))) m (λ i. inr refl)
      (λ a b c. at_most_trans (key_below d 16) (tuple_keys d 16).order (get_or (lists a) 0 (key_none d 16)) (get_or (lists b) 0 (key_none d 16)) (get_or (lists c) 0 (key_none d 16))) heap p.left p.left f.left r.0 r.2)
      (ascending_at_most (key_below d 16) (lists p.left) 0 p.right (key_none d 16) (asc p.left r.0) (omega arith) r.1))
  | inr n ↦
      (run_divided (key_below d 16) (tuple_keys d 16).order (key_none d 16) m lists asc f inside.0 inside.1).least p (omega (arith, h, reaches_later m (λ r. length (lists r)) f p n))
]

-- an entry in range stands for the last solution of its member
reaches_last : (m : ℕ) (sizes : ℕ → ℕ) (f : Pair) (i : ℕ) → f.left < m → f.right < sizes f.left → f.left ≡ i → reaches m sizes f (record { left = i; right = sizes i - 1 }) ≡ 1
unfolding reaches
reaches_last m sizes f i l k e =
    at m (sizes i) f.left f.right i (under f.left i) l (subst (λ z. f.right < sizes z) e k) e (subst (λ z. under f.left z ≡ 1) e (itself f.left))
  where
    itself : (j : ℕ) → under j j ≡ 1
    itself j = omega (arith, climbs_split j j j (omega arith), climbs_above j j (2 * j + 1) (omega arith), climbs_above j j (2 * j + 2) (omega arith), one j)
      where
        one : (j : ℕ) → same j j ≡ 1
        one j = grind (arith, nat_tests)

    at : (m s j k i u : ℕ) → j < m → k < s → j ≡ i → u ≡ 1 → cond (nat_lt i m) (cond (nat_lt (s - 1) s) 1 0) 0 * cond (nat_eq k 0) u (cond (nat_eq j i) (cond (nat_le k (s - 1)) 1 0) 0) ≡ 1
    at m s j k i u a b c e = grind (arith, nat_tests)

-- # How many entries a queue has

-- the entries of member i
abbrev of_member : ℕ → List Pair → ℕ
of_member i [] = 0
of_member i (p ∷ ps) = cond (nat_eq p.left i) 1 0 + of_member i ps

-- the entries of the first n members
abbrev of_members : ℕ → List Pair → ℕ
of_members n [] = 0
of_members n (p ∷ ps) = cond (nat_lt p.left n) 1 0 + of_members n ps

one_more : (n : ℕ) (ps : List Pair) → of_members (suc n) ps ≡ of_members n ps + of_member n ps
one_more n [] = refl
one_more n (p ∷ ps) = omega (arith, one_more n ps, at p.left n)
  where
    at : (x n : ℕ) → cond {A = ℕ} (nat_lt x (suc n)) 1 0 ≡ cond (nat_lt x n) 1 0 + cond (nat_eq x n) 1 0
    at x n = grind (arith, nat_tests)

of_none : (ps : List Pair) → of_members 0 ps ≡ 0
of_none [] = refl
of_none (p ∷ ps) = omega (arith, of_none ps, at p.left)
  where
    at : (x : ℕ) → cond {A = ℕ} (nat_lt x 0) 1 0 ≡ 0
    at x = grind (arith, nat_tests)

module _ (d m : ℕ) (lists : ℕ → List (KeyOf d 16)) where
  of_all : (ps : List Pair) → AllInside (InRuns d m lists) ps → of_members m ps ≡ length ps
  of_all [] a = refl
  of_all (p ∷ ps) a = omega (arith, of_all ps a.1, at p.left m a.0.0)
    where
      at : (x n : ℕ) → x < n → cond {A = ℕ} (nat_lt x n) 1 0 ≡ 1
      at x n l = grind (arith, nat_tests)

  counted_within : (i : ℕ) (ps : List Pair) → AllInside (InRuns d m lists) ps → of_member i ps ≤ total (reaches m (λ r. length (lists r))) ps (record { left = i; right = length (lists i) - 1 })
  unfolding total
  counted_within i [] a = omega arith
  counted_within i (p ∷ ps) a = elim (cases_eq p.left i) [
    | inl e ↦ omega (arith, counted_within i ps a.1, reaches_last m (λ r. length (lists r)) p i a.0.0 a.0.1 e, few p.left i)
    | inr n ↦ omega (arith, counted_within i ps a.1, none p.left i n)
  ]
    where
      few : (x i : ℕ) → cond {A = ℕ} (nat_eq x i) 1 0 ≤ 1
      few x i = grind (arith, nat_tests)

      none : (x i : ℕ) → x ≢ i → cond {A = ℕ} (nat_eq x i) 1 0 ≡ 0
      none x i n = grind (arith, nat_tests)

  -- If no solution is stood for twice, a member has at most one entry.
  pub few_entries : (ps : List Pair) → AllInside (InRuns d m lists) ps → ((x : Pair) → total (reaches m (λ r. length (lists r))) ps x ≤ 1) → length ps ≤ m
  few_entries ps a once = omega (arith, of_all ps a, within m)
    where
      within : (n : ℕ) → of_members n ps ≤ n
      within zero = omega (arith, of_none ps)
      within (suc n) = omega (arith, within n, one_more n ps, counted_within n ps a, once (record { left = n; right = length (lists n) - 1 }))
