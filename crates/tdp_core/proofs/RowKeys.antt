-- The key of a row is one that a node with the row's item can have.
use Rattle.std.proofs.Common.{◌≡◌, ℕ, ◌<◌, ◌≤◌, ℤ, pos, cond, nat_eq, List, get_or, replicate, unsigned_abs, sym, ap, subst, ◌∙◌, inl, inr, arith}
use Rattle.std.proofs.Math.ListN.{set}
use Rattle.std.proofs.lemmas.Bool.{cases_eq, eq-eqb, ne_eqb, cond-true, cond-false}
use Rattle.std.proofs.lemmas.List.{get_or-set_same, get_or-set_other, get_or-replicate, length-replicate}
use Rattle.tdp_model.specs.KeyTuple.{slot_of}
use Rattle.tdp_model.proofs.KeyNumbers.{sum_of_lists, slot_of_lists}
use Rattle.rank_key.specs.Keys.{row_key}
use Rattle.tdp_core.specs.WellFormed.{RowFits}

one_slot : (slot row i : ℕ) → slot < 16 → i < 16 → get_or (set (replicate 16 0) slot row) i 0 ≡ cond (nat_eq i slot) row 0
one_slot slot row i l h = elim (cases_eq i slot) [
  | inl e ↦
      ap (λ p. get_or (set (replicate 16 0) slot row) p 0) e ∙ get_or-set_same (replicate 16 0) slot row 0 (omega (arith, length-replicate {A = ℕ} 16 0))
      ∙ sym (cond-true (nat_eq i slot) row 0 (eq-eqb i slot e))
  | inr n ↦ get_or-set_other (replicate 16 0) slot i row 0 n ∙ get_or-replicate 16 i 0 0 h ∙ sym (cond-false (nat_eq i slot) row 0 (ne_eqb i slot n))
]

pub row_key_slot : (d : ℕ) (sums : List ℤ) (slot row i : ℕ) → slot < 16 → i < 16 → slot_of d 16 i (row_key d sums slot row) ≡ cond (nat_eq i slot) row 0
row_key_slot d sums slot row i l h = slot_of_lists d 16 i sums (set (replicate 16 0) slot row) h ∙ one_slot slot row i l h

pub row_key_fits : (d : ℕ) (sums : List ℤ) (item row : ℕ) (cap : ℕ → ℕ) → item < 16 → ((i : ℕ) → i < d → unsigned_abs (get_or sums i (pos 0)) ≤ cap i)
    → RowFits d item cap row (row_key d sums item row)
row_key_fits d sums item row cap l within = record {
  sums = λ i h. subst (λ z. unsigned_abs z ≤ cap i) (sym (sum_of_lists d 16 i sums (set (replicate 16 0) item row) h)) (within i h);
  slots = λ i h. row_key_slot d sums item row i l h;
}
