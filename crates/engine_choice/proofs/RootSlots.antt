-- The slot of the root's item in the key of a subtree solution is the number of the root's row.
use Rattle.std.proofs.Common.{◌≡◌, ℕ, zero, suc, ◌+◌, ◌-◌, ◌<◌, ◌≤◌, List, length, get_or, ap, ◌∙◌, inl, inr, arith}
use Rattle.std.proofs.lemmas.Bool.{cases_eq}
use Rattle.tdp_model.specs.KeyTuple.{KeyOf, key_below, key_add, key_none, slot_of}
use Rattle.tdp_model.specs.TreeProblem.{sum_from, kid_key, RowHas}
use Rattle.tdp_model.proofs.Descent.{below_less}
use Rattle.tdp_model.proofs.KeyTuples.{tuple_keys}
use Rattle.tdp_model.proofs.SubtreeTies.{kid_yes, kid_no, slot_outside}
use Rattle.tdp_model.proofs.Ties.{slot_zero}
use Rattle.tdp_core.specs.TreeView.{NodeView, parent, item, number, group, rank}
use Rattle.tdp_core.specs.WellFormed.{IsFormed, IsTieFreeTree}
use Rattle.tdp_core.proofs.TreeFacts.{tie_free_of}

module _ {R : Type 0} (d : ℕ) (key : R → KeyOf d 16) (t : List (NodeView R)) (formed : IsFormed d key t) (apart : IsTieFreeTree t) where
  abbrev pub RowOf : ℕ → ℕ → ℕ → KeyOf d 16 → Type 0
  RowOf depth v r k = RowHas (key_add d 16) (key_none d 16) (length t) (parent t) (rank t d key) (group t) depth v r k

  pub root_slot : (depth r : ℕ) (k : KeyOf d 16) → RowOf depth 0 r k → slot_of d 16 (item t 0) k ≡ number t 0 r
  root_slot zero r k h = absurd h
  root_slot (suc depth) r k h =
      let m = length t in
      let some : 0 < m = omega (arith, formed.shaped.some_node) in
      let free = tie_free_of d key t formed apart in
      let kids : ℕ → KeyOf d 16 = kid_key (key_none d 16) (parent t) 0 h.0 in
      let empty : (q : ℕ) → 1 ≤ q → q < 1 + (m - 1) → slot_of d 16 (item t 0) (kids q) ≡ 0 =
      λ q a b. elim (cases_eq (parent t q) 0) [
        | inl e ↦
            (let g = h.1 q (omega (arith, a)) (omega (arith, b)) e in
            ap (slot_of d 16 (item t 0)) (kid_yes (key_none d 16) (parent t) 0 h.0 q e)
            ∙ slot_outside (key_below d 16) (key_add d 16) (key_none d 16) (tuple_keys d 16) m (parent t) (rank t d key) (group t) formed.shaped.parents_first (item t) (number t) (slot_of d 16) free
            depth q (get_or (group t q r) g.0 0) 0 (h.0 q) (omega (arith, b)) some (below_less m (parent t) formed.shaped.parents_first q 0 some (omega (arith, a))) g.2)
        | inr n ↦ ap (slot_of d 16 (item t 0)) (kid_no (key_none d 16) (parent t) 0 h.0 q n) ∙ free.slot_none (item t 0)
      ]
      in
      ap (slot_of d 16 (item t 0)) h.2
      ∙ omega (
        arith,
        free.slot_add (item t 0) (rank t d key 0 r) (sum_from (key_add d 16) (key_none d 16) kids (m - 1) 1),
        free.slot_own 0 r some,
        slot_zero (key_add d 16) (key_none d 16) m (parent t) (rank t d key) (group t) (item t) (number t) (slot_of d 16) free (item t 0) kids (m - 1) 1 empty,
      )
