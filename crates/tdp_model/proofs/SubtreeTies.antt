-- Ties below a node: a subtree solution's key is determined by the numbers in its slots, and so are the two parts of a product.
use Rattle.std.proofs.Common.{◌≡◌, ◌≢◌, ℕ, zero, suc, ◌+◌, ◌-◌, ◌<◌, ◌≤◌, List, length, get_or, refl, sym, ap, ◌∙◌, subst, inl, inr, arith}
use Rattle.std.proofs.lemmas.Bool.{cases_lt}
use Rattle.tdp_model.specs.KeyLaws.{IsKeys}
use Rattle.tdp_model.specs.Below.{is_below}
use Rattle.tdp_model.specs.TreeProblem.{sum_from, kid_key, RowHas, GroupHas, PartHas, IsTieFree}
use Rattle.tdp_model.proofs.Subtrees.{cases_eq}
use Rattle.tdp_model.proofs.Keys.{cancel}
use Rattle.tdp_model.proofs.Sums.{sum_same}
use Rattle.tdp_model.proofs.Ties.{slot_zero, slot_at}
use Rattle.tdp_model.proofs.Descent.{below_itself, below_less, kids_apart, child_below}
use Rattle.tdp_model.proofs.Picks.{pick_eq, pick_ne}

pub kid_yes : {K : Type 0} (none : K) (parent : ℕ → ℕ) (v : ℕ) (f : ℕ → K) (q : ℕ) → parent q ≡ v → kid_key none parent v f q ≡ f q
unfolding kid_key
kid_yes none parent v f q e = pick_eq (parent q) v (f q) none e

pub kid_no : {K : Type 0} (none : K) (parent : ℕ → ℕ) (v : ℕ) (f : ℕ → K) (q : ℕ) → parent q ≢ v → kid_key none parent v f q ≡ none
unfolding kid_key
kid_no none parent v f q e = pick_ne (parent q) v (f q) none e

module _ {K : Type 0} (Below : K → K → Type 0) (add : K → K → K) (none : K) (keys : IsKeys K Below add none)
    (m : ℕ) (parent : ℕ → ℕ) (rank : ℕ → ℕ → K) (group : ℕ → ℕ → List ℕ) (parents_first : (q : ℕ) → 0 < q → q < m → parent q < q)
    (item : ℕ → ℕ) (number : ℕ → ℕ → ℕ) (slot : ℕ → K → ℕ) (free : IsTieFree K add none m rank group item number slot) where
  -- a slot of a kid's part is empty, where no solution of the kid has the slot
  kid_slot : (v u q : ℕ) (f : ℕ → K) → (parent q ≡ v → slot (item u) (f q) ≡ 0) → slot (item u) (kid_key none parent v f q) ≡ 0
  kid_slot v u q f h = elim (cases_eq (parent q) v) [
    | inl e ↦ ap (λ z. slot (item u) z) (kid_yes none parent v f q e) ∙ h e
    | inr n ↦ ap (λ z. slot (item u) z) (kid_no none parent v f q n) ∙ free.slot_none (item u)
  ]

  -- a subtree solution has no number in the slot of a node that is not below
  pub slot_outside : (d v r u : ℕ) (k : K) → v < m → u < m → is_below parent v u ≡ 0 → RowHas add none m parent rank group d v r k → slot (item u) k ≡ 0
  slot_outside zero v r u k l lu z h = absurd h
  slot_outside (suc d) v r u k l lu z h =
      ap (λ w. slot (item u) w) h.2
      ∙ omega (
        arith,
        free.slot_add (item u) (rank v r) (sum_from add none (kid_key none parent v h.0) (m - suc v) (suc v)),
        free.slot_other u v r lu l (λ e. omega (arith, below_itself m parent parents_first v u e)),
        slot_zero add none m parent rank group item number slot free (item u) (kid_key none parent v h.0) (m - suc v) (suc v)
            (λ q a b. kid_slot v u q h.0 (λ e.
            let g : GroupHas add none m parent rank group d q r (h.0 q) = h.1 q (omega arith) (omega arith) e in
            slot_outside d q (get_or (group q r) g.0 0) u (h.0 q) (omega arith) lu
            (elim (cases_lt 0 (is_below parent q u)) [
              | inl p ↦ absurd (omega (arith, child_below m parent parents_first u v q u (omega arith) lu (omega arith) (omega arith) e p))
              | inr y ↦ omega arith
            ]) g.2)),
      )

  -- the slots of node u in a kid's part, where u is not below the kid
  outside_kid : (d v r u q c : ℕ) (k : K) → v < q → q < m → parent q ≡ v → v < c → c < m → parent c ≡ v → q ≢ c → u < m → 0 < is_below parent c u
      → GroupHas add none m parent rank group d q r k → slot (item u) k ≡ 0
  outside_kid d v r u q c k a b e a' b' e' n lu p g =
      slot_outside d q (get_or (group q r) g.0 0) u k b lu (kids_apart m parent parents_first u v c q u (omega arith) lu a' a b' b e' e (λ w. n (sym w)) p) g.2

  -- of a row and a sum over kids, the slot of a node below one kid is that of the kid's part
  slot_of_kid : (d v r u c n : ℕ) (f : ℕ → K) → v < m → u < m → v < c → c < m → c < suc v + n → suc v + n ≤ m → parent c ≡ v → 0 < is_below parent c u
      → ((q : ℕ) → v < q → q < suc v + n → parent q ≡ v → GroupHas add none m parent rank group d q r (f q))
      → slot (item u) (add (rank v r) (sum_from add none (kid_key none parent v f) n (suc v))) ≡ slot (item u) (f c)
  slot_of_kid d v r u c n f l lu a b hi top e p g =
      let s : slot (item u) (sum_from add none (kid_key none parent v f) n (suc v)) ≡ slot (item u) (kid_key none parent v f c) =
      slot_at add none m parent rank group item number slot free (item u) c (kid_key none parent v f) n (suc v) (omega arith) (omega arith)
      (λ j x y w. kid_slot v u j f (λ s. outside_kid d v r u j c (f j) (omega arith) (omega arith) s a b e w lu p (g j (omega arith) (omega arith) s))) in
      let own : slot (item u) (rank v r) ≡ 0 =
      free.slot_other u v r lu l (λ w. omega (arith, child_below m parent parents_first u v c u (omega arith) lu a b e p)) in
      omega (arith, free.slot_add (item u) (rank v r) (sum_from add none (kid_key none parent v f) n (suc v)), own, s, ap (λ z. slot (item u) z) (kid_yes none parent v f c e))

  -- the slot of the node itself
  slot_of_row : (d v r : ℕ) (k : K) → v < m → RowHas add none m parent rank group (suc d) v r k → slot (item v) k ≡ number v r
  slot_of_row d v r k l h =
      ap (λ w. slot (item v) w) h.2
      ∙ omega (
        arith,
        free.slot_add (item v) (rank v r) (sum_from add none (kid_key none parent v h.0) (m - suc v) (suc v)),
        free.slot_own v r l,
        slot_zero add none m parent rank group item number slot free (item v) (kid_key none parent v h.0) (m - suc v) (suc v)
            (λ q a b. kid_slot v v q h.0 (λ e.
            let g : GroupHas add none m parent rank group d q r (h.0 q) = h.1 q (omega arith) (omega arith) e in
            slot_outside d q (get_or (group q r) g.0 0) v (h.0 q) (omega arith) l (below_less m parent parents_first q v l (omega arith)) g.2)),
      )

  -- Two rows of a group whose solutions have one key are one row.
  pub rows_apart : (d q r i j : ℕ) (k : K) → q < m → i < length (group q r) → j < length (group q r)
      → RowHas add none m parent rank group d q (get_or (group q r) i 0) k → RowHas add none m parent rank group d q (get_or (group q r) j 0) k → get_or (group q r) i 0 ≡ get_or (group q r) j 0
  rows_apart zero q r i j k l a b h g = absurd h
  rows_apart (suc d) q r i j k l a b h g = free.numbered_apart q r i j l a b (sym (slot_of_row d q _ k l h) ∙ slot_of_row d q _ k l g)

  -- Subtree solutions of a group with the same slots have one key.
  pub determined : (d q r : ℕ) (k l : K) → q < m → GroupHas add none m parent rank group d q r k → GroupHas add none m parent rank group d q r l
      → ((u : ℕ) → u < m → 0 < is_below parent q u → slot (item u) k ≡ slot (item u) l) → k ≡ l
  determined zero q r k l lq a b same = absurd a.2
  determined (suc d) q r k l lq a b same =
      let x : ℕ = get_or (group q r) a.0 0 in
      let one : x ≡ get_or (group q r) b.0 0 = free.numbered_apart q r a.0 b.0 lq a.1 b.1
      (sym (slot_of_row d q _ k lq a.2) ∙ same q lq (omega (arith, below_itself m parent parents_first q q refl)) ∙ slot_of_row d q _ l lq b.2) in
      let h : RowHas add none m parent rank group (suc d) q x k = a.2 in
      let g : RowHas add none m parent rank group (suc d) q x l = subst (λ z. RowHas add none m parent rank group (suc d) q z l) (sym one) b.2 in
      h.2
      ∙ ap (λ z. add (rank q x) z)
      (sum_same Below add none keys (kid_key none parent q h.0) (kid_key none parent q g.0) (m - suc q) (suc q)
      (λ c lo hi. elim (cases_eq (parent c) q) [
        | inl e ↦
            kid_yes none parent q h.0 c e
            ∙ determined d c x (h.0 c) (g.0 c) (omega arith) (h.1 c (omega arith) (omega arith) e) (g.1 c (omega arith) (omega arith) e)
            (λ u lu p.
            sym (slot_of_kid d q x u c (m - suc q) h.0 lq lu (omega arith) (omega arith) (omega arith) (omega arith) e p (λ j s t w. h.1 j s (omega arith) w))
            ∙ ap (λ z. slot (item u) z) (sym h.2)
            ∙ same u lu (omega (arith, child_below m parent parents_first u q c u (omega arith) lu (omega arith) (omega arith) e p))
            ∙ ap (λ z. slot (item u) z) g.2
            ∙ slot_of_kid d q x u c (m - suc q) g.0 lq lu (omega arith) (omega arith) (omega arith) (omega arith) e p (λ j s t w. g.1 j s (omega arith) w))
            ∙ sym (kid_yes none parent q g.0 c e)
        | inr n ↦ kid_no none parent q h.0 c n ∙ sym (kid_no none parent q g.0 c n)
      ]))
      ∙ sym g.2

  -- the part of a row before child c has no number in a slot below c
  part_outside : (d v r n c u : ℕ) (k : K) → c ≡ suc v + n → c < m → parent c ≡ v → u < m → 0 < is_below parent c u → PartHas add none m parent rank group d v r n k → slot (item u) k ≡ 0
  part_outside d v r n c u k at lc e lu p h =
      ap (λ z. slot (item u) z) h.2
      ∙ omega (
        arith,
        free.slot_add (item u) (rank v r) (sum_from add none (kid_key none parent v h.0) n (suc v)),
        free.slot_other u v r lu (omega arith) (λ w. omega (arith, child_below m parent parents_first u v c u (omega arith) lu (omega arith) lc e p)),
        slot_zero add none m parent rank group item number slot free (item u) (kid_key none parent v h.0) n (suc v)
            (λ q a b. kid_slot v u q h.0 (λ s. outside_kid d v r u q c (h.0 q) (omega arith) (omega arith) s (omega arith) lc e (λ w. omega arith) lu p (h.1 q (omega arith) (omega arith) s))),
      )

  -- The two parts of a product's key are determined by their sum.
  pub product_apart : (d v r n c : ℕ) (a a' b b' : K) → c ≡ suc v + n → c < m → parent c ≡ v → PartHas add none m parent rank group d v r n a → PartHas add none m parent rank group d v r n a'
      → GroupHas add none m parent rank group d c r b → GroupHas add none m parent rank group d c r b' → add a b ≡ add a' b' → (a ≡ a') × (b ≡ b')
  product_apart d v r n c a a' b b' at lc e pa pa' gb gb' s =
      let right : b ≡ b' = determined d c r b b' lc gb gb'
      (λ u lu p. omega (
        arith,
        free.slot_add (item u) a b,
        free.slot_add (item u) a' b',
        ap (λ z. slot (item u) z) s,
        part_outside d v r n c u a at lc e lu p pa,
        part_outside d v r n c u a' at lc e lu p pa',
      )) in
      (cancel Below add none keys a a' b (s ∙ ap (λ z. add a' z) (sym right)), right)
