-- A group's queue at its start, for any list of rows with different numbers, whether or not a row of the parent names it.
use Rattle.std.proofs.Common.{◌≡◌, ℕ, zero, suc, ◌-◌, ◌<◌, List, [], ◌∷◌, length, get_or, sym, ap, ◌∙◌, inl, inr, arith}
use Rattle.std.proofs.lemmas.Bool.{cases_eq}
use Rattle.rankings.specs.Order.{IsRanking}
use Rattle.tdp_model.specs.KeyLaws.{IsKeys}
use Rattle.tdp_model.specs.Remains.{Remains, total}
use Rattle.tdp_model.specs.StagedProblem.{IsDistinct}
use Rattle.tdp_model.specs.Product.{Pair, is_run, run_key}
use Rattle.tdp_model.specs.TreeProblem.{sum_from, kid_key, RowHas, GroupHas, IsTieFree}
use Rattle.tdp_model.proofs.Removal.{Remains-same}
use Rattle.tdp_model.proofs.Ties.{slot_zero}
use Rattle.tdp_model.proofs.Descent.{below_less}
use Rattle.tdp_model.proofs.SubtreeTies.{kid_yes, kid_no, slot_outside}
use Rattle.tdp_model.proofs.Streams.{group_remains}
use Rattle.suffix_streams.specs.Reaches.{reaches}
use Rattle.suffix_streams.proofs.Reaching.{root_stands}

module _ {K : Type 0} (Below : K → K → Type 0) (add : K → K → K) (none : K) (keys : IsKeys K Below add none)
    (m : ℕ) (parent : ℕ → ℕ) (rank : ℕ → ℕ → K) (group : ℕ → ℕ → List ℕ) (parents_first : (q : ℕ) → 0 < q → q < m → parent q < q)
    (item : ℕ → ℕ) (number : ℕ → ℕ → ℕ) (slot : ℕ → K → ℕ) (free : IsTieFree K add none m rank group item number slot) where
  -- a slot of a kid's part is empty, where no solution of the kid has the slot
  kid_slot : (v q : ℕ) (f : ℕ → K) → (parent q ≡ v → slot (item v) (f q) ≡ 0) → slot (item v) (kid_key none parent v f q) ≡ 0
  kid_slot v q f h = elim (cases_eq (parent q) v) [
    | inl e ↦ ap (λ z. slot (item v) z) (kid_yes none parent v f q e) ∙ h e
    | inr n ↦ ap (λ z. slot (item v) z) (kid_no none parent v f q n) ∙ free.slot_none (item v)
  ]

  -- a subtree solution has its row's number in the slot of its node
  slot_of_row : (d v r : ℕ) (k : K) → v < m → RowHas add none m parent rank group (suc d) v r k → slot (item v) k ≡ number v r
  slot_of_row d v r k l h =
      ap (λ w. slot (item v) w) h.2
      ∙ omega (
        arith,
        free.slot_add (item v) (rank v r) (sum_from add none (kid_key none parent v h.0) (m - suc v) (suc v)),
        free.slot_own v r l,
        slot_zero add none m parent rank group item number slot free (item v) (kid_key none parent v h.0) (m - suc v) (suc v)
            (λ q a b. kid_slot v q h.0 (λ e.
            let g : GroupHas add none m parent rank group d q r (h.0 q) = h.1 q (omega arith) (omega arith) e in
            slot_outside Below add none keys m parent rank group parents_first item number slot free d q (get_or (group q r) g.0 0) v (h.0 q) (omega arith) l (below_less m parent parents_first q v l (omega arith)) g.2)),
      )

  -- k is the key of a subtree solution of one of the rows
  abbrev pub AnyHas : ℕ → ℕ → List ℕ → K → Type 0
  AnyHas d q members k = (i : ℕ) × (i < length members) × RowHas add none m parent rank group d q (get_or members i 0) k

  members_apart : (d q : ℕ) (members : List ℕ) (i j : ℕ) (k : K) → q < m → IsDistinct members
      → ((i j : ℕ) → i < length members → j < length members → number q (get_or members i 0) ≡ number q (get_or members j 0) → get_or members i 0 ≡ get_or members j 0)
      → i < length members → j < length members → RowHas add none m parent rank group d q (get_or members i 0) k → RowHas add none m parent rank group d q (get_or members j 0) k → i ≡ j
  members_apart zero q members i j k l distinct apart a b h g = absurd h
  members_apart (suc d) q members i j k l distinct apart a b h g =
      distinct i j a b (apart i j a b (sym (slot_of_row d q _ k l h) ∙ slot_of_row d q _ k l g))

  pub members_begin : (d q : ℕ) (members : List ℕ) (lists : ℕ → List K) (zs : List K) → q < m → IsDistinct members
      → ((i j : ℕ) → i < length members → j < length members → number q (get_or members i 0) ≡ number q (get_or members j 0) → get_or members i 0 ≡ get_or members j 0)
      → ((i : ℕ) → i < length members → IsRanking K Below (RowHas add none m parent rank group d q (get_or members i 0)) (lists i))
      → IsRanking K Below (AnyHas d q members) zs
      → Remains Pair K Below (run_key none lists) (total (reaches (length members) (λ i. length (lists i))) ((record { left = 0; right = 0 }) ∷ [])) zs
  unfolding total
  members_begin d q members lists zs l distinct apart rows rz =
      Remains-same Below (run_key none lists) (is_run (length members) (λ i. length (lists i))) (total (reaches (length members) (λ i. length (lists i))) ((record { left = 0; right = 0 }) ∷ [])) zs
      (λ p. omega (arith, root_stands (length members) (λ i. length (lists i)) p))
      (group_remains Below none keys.order (length members) (λ i. RowHas add none m parent rank group d q (get_or members i 0)) (AnyHas d q members) lists zs rows rz
      (λ i k il h. (i, il, h))
      (λ k h. h)
      (λ i j k il jl hi hj. members_apart d q members i j k l distinct apart il jl hi hj))
