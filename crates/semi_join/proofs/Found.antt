-- The place of a number in a list.
use Rattle.std.proofs.Common.{◌≡◌, ℕ, ◌<◌, inl, inr, nat_eq, List, length, get_or, sym, arith, eq-eqb, eqb-true}
use Rattle.std.specs.List.{position_or_len}
use Rattle.std.proofs.lemmas.Bool.{cases_lt}
use Rattle.std.proofs.lemmas.List.Sums.{passes_at_first, fails_before_first}
use Rattle.semi_join.proofs.Numbering.{clash}
use Rattle.semi_join.proofs.Meets.{Stands}

pub found_at : (x : ℕ) (xs : List ℕ) → Stands x xs → (position_or_len (nat_eq x) xs < length xs) × (get_or xs (position_or_len (nat_eq x) xs) 0 ≡ x)
found_at x xs s = elim (cases_lt (position_or_len (nat_eq x) xs) (length xs)) [
  | inl l ↦ (l, sym (eqb-true x (get_or xs (position_or_len (nat_eq x) xs) 0) (passes_at_first (nat_eq x) xs 0 l)))
  | inr g ↦ absurd (clash (nat_eq x (get_or xs s.0 0)) (eq-eqb x (get_or xs s.0 0) (sym s.2)) (fails_before_first (nat_eq x) xs s.0 0 (omega (arith, s.1, g))))
]
