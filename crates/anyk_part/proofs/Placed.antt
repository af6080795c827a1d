-- A list in which one number after the other is put.
use Rattle.std.proofs.Common.{ℕ, ◌+◌, ◌<◌, List, length, get_or, sym, subst, inl, inr, arith}
use Rattle.std.proofs.lemmas.Bool.{cases_eq}
use Rattle.std.proofs.Math.ListN.{set}
use Rattle.std.proofs.lemmas.List.{get_or-set_same, get_or-set_other}

pub placed_next : (P : ℕ → ℕ → Type 0) (xs : List ℕ) (n x m : ℕ) → n < length xs → P n x → ((v : ℕ) → 0 < v → v < n → v < m → P v (get_or xs v 0))
    → (v : ℕ) → 0 < v → v < n + 1 → v < m → P v (get_or (set xs n x) v 0)
placed_next P xs n x m room here before v some below inside = elim (cases_eq v n) [
  | inl e ↦ subst (λ u. P u (get_or (set xs n x) u 0)) (sym e) (subst (λ z. P n z) (sym (get_or-set_same xs n x 0 room)) here)
  | inr d ↦ subst (λ z. P v z) (sym (get_or-set_other xs n v x 0 d)) (before v some (omega arith) inside)
]
