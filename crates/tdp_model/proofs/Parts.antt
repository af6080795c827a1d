-- A row's subtree solutions, as binary products one after the other.
use Rattle.std.proofs.Common.{◌≡◌, ◌≢◌, ℕ, suc, ◌+◌, ◌-◌, ◌<◌, cond, nat_eq, List, refl, sym, ap, ◌∙◌, subst, inl, inr, arith}
use Rattle.tdp_model.specs.KeyLaws.{IsKeys}
use Rattle.tdp_model.specs.TreeProblem.{sum_from, kid_key, RowHas, GroupHas, PartHas}
use Rattle.tdp_model.proofs.Picks.{pick_eq, pick_ne}
use Rattle.tdp_model.proofs.Subtrees.{cases_eq}
use Rattle.tdp_model.proofs.Sums.{sum_same, sum_last}
use Rattle.tdp_model.proofs.SubtreeTies.{kid_yes, kid_no}

kid_swap : {K : Type 0} (none : K) (parent : ℕ → ℕ) (v : ℕ) (f g : ℕ → K) (i : ℕ) → f i ≡ g i → kid_key none parent v f i ≡ kid_key none parent v g i
unfolding kid_key
kid_swap none parent v f g i e = ap (λ z. cond (nat_eq (parent i) v) z none) e

module _ {K : Type 0} (Below : K → K → Type 0) (add : K → K → K) (none : K) (keys : IsKeys K Below add none)
    (m : ℕ) (parent : ℕ → ℕ) (rank : ℕ → ℕ → K) (group : ℕ → ℕ → List ℕ) where
  -- before its first child a row has its own key
  pub part_first : (d v r : ℕ) (k : K) → k ≡ rank v r → PartHas add none m parent rank group d v r 0 k
  unfolding sum_from
  part_first d v r k e = ((λ q. none), (λ q a b c. absurd (omega arith)), e ∙ sym (keys.add_none (rank v r)))

  pub part_first_only : (d v r : ℕ) (k : K) → PartHas add none m parent rank group d v r 0 k → k ≡ rank v r
  unfolding sum_from
  part_first_only d v r k h = h.2 ∙ keys.add_none (rank v r)

  -- the last node of the sum
  part_last : (v r n c : ℕ) (f : ℕ → K) → c ≡ suc v + n
      → add (rank v r) (sum_from add none (kid_key none parent v f) (suc n) (suc v)) ≡ add (add (rank v r) (sum_from add none (kid_key none parent v f) n (suc v))) (kid_key none parent v f c)
  part_last v r n c f e =
      ap (λ z. add (rank v r) z) (sum_last Below add none keys (kid_key none parent v f) n (suc v) c e)
      ∙ sym (keys.add_assoc (rank v r) (sum_from add none (kid_key none parent v f) n (suc v)) (kid_key none parent v f c))

  -- a node that is no child adds nothing
  pub part_skip : (d v r n c : ℕ) (k : K) → c ≡ suc v + n → parent c ≢ v → PartHas add none m parent rank group d v r n k → PartHas add none m parent rank group d v r (suc n) k
  part_skip d v r n c k e other h = (
    h.0,
    (λ q a b s. h.1 q a (below_last q v n c b e (λ w. other (ap parent (sym w) ∙ s))) s),
    h.2 ∙ sym (part_last v r n c h.0 e ∙ ap (λ z. add (add (rank v r) (sum_from add none (kid_key none parent v h.0) n (suc v))) z) (kid_no none parent v h.0 c other) ∙ keys.add_none _),
  )
    where
      below_last : (q v n c : ℕ) → q < suc v + suc n → c ≡ suc v + n → q ≢ c → q < suc v + n
      below_last q v n c l e x = omega arith

  pub part_skipped : (d v r n c : ℕ) (k : K) → c ≡ suc v + n → parent c ≢ v → PartHas add none m parent rank group d v r (suc n) k → PartHas add none m parent rank group d v r n k
  part_skipped d v r n c k e other h = (
    h.0,
    (λ q a b s. h.1 q a (omega arith) s),
    h.2 ∙ part_last v r n c h.0 e ∙ ap (λ z. add (add (rank v r) (sum_from add none (kid_key none parent v h.0) n (suc v))) z) (kid_no none parent v h.0 c other) ∙ keys.add_none _,
  )

  -- a child is one more factor
  pub part_split : (d v r n c : ℕ) (k : K) → c ≡ suc v + n → parent c ≡ v → PartHas add none m parent rank group d v r (suc n) k
      → (a : K) × (b : K) × PartHas add none m parent rank group d v r n a × GroupHas add none m parent rank group d c r b × (k ≡ add a b)
  part_split d v r n c k e kid h = (
    add (rank v r) (sum_from add none (kid_key none parent v h.0) n (suc v)),
    h.0 c,
    (h.0, (λ q a b s. h.1 q a (omega arith) s), refl),
    h.1 c (omega arith) (omega arith) kid,
    h.2 ∙ part_last v r n c h.0 e ∙ ap (λ z. add (add (rank v r) (sum_from add none (kid_key none parent v h.0) n (suc v))) z) (kid_yes none parent v h.0 c kid),
  )

  pub part_join : (d v r n c : ℕ) (a b : K) → c ≡ suc v + n → parent c ≡ v → PartHas add none m parent rank group d v r n a → GroupHas add none m parent rank group d c r b
      → PartHas add none m parent rank group d v r (suc n) (add a b)
  part_join d v r n c a b e kid h g =
      let f : ℕ → K = λ q. cond (nat_eq q c) b (h.0 q) in
      let at : f c ≡ b = pick_eq c c b (h.0 c) refl in (
        f,
        (λ q x y s. elim (cases_eq q c) [
          | inl w ↦ subst (λ z. GroupHas add none m parent rank group d z r (f z)) (sym w) (subst (λ z. GroupHas add none m parent rank group d c r z) (sym at) g)
          | inr w ↦ subst (λ z. GroupHas add none m parent rank group d q r z) (sym (pick_ne q c b (h.0 q) w)) (h.1 q x (omega arith) s)
        ]),
        ap (λ z. add z b) (h.2 ∙ ap (λ z. add (rank v r) z) (sum_same Below add none keys (kid_key none parent v h.0) (kid_key none parent v f) n (suc v)
            (λ i x y. kid_swap none parent v h.0 f i (sym (pick_ne i c b (h.0 i) (λ w. omega arith))))))
            ∙ ap (λ z. add (add (rank v r) (sum_from add none (kid_key none parent v f) n (suc v))) z) (sym (kid_yes none parent v f c kid ∙ at))
            ∙ sym (part_last v r n c f e),
      )

  -- all nodes after v: the row's subtree solutions
  pub row_of_part : (d v r n : ℕ) (k : K) → n ≡ m - suc v → v < m → PartHas add none m parent rank group d v r n k → RowHas add none m parent rank group (suc d) v r k
  row_of_part d v r n k e l h =
      (h.0, (λ q a b s. h.1 q a (omega arith) s), h.2 ∙ ap (λ z. add (rank v r) (sum_from add none (kid_key none parent v h.0) z (suc v))) e)

  pub part_of_row : (d v r n : ℕ) (k : K) → n ≡ m - suc v → v < m → RowHas add none m parent rank group (suc d) v r k → PartHas add none m parent rank group d v r n k
  part_of_row d v r n k e l h =
      (h.0, (λ q a b s. h.1 q a (omega arith) s), h.2 ∙ ap (λ z. add (rank v r) (sum_from add none (kid_key none parent v h.0) z (suc v))) (sym e))
