-- Rows that pass, found one after another.
use Rattle.std.proofs.Common.{◌≡◌, ◌↔◌, ◌+◌, ◌<◌, ◌≤◌, ℕ, zero, suc, List, [], ◌∷◌, ◌++◌, length, get_or, sym, subst, inl, inr, arith}
use Rattle.std.proofs.lemmas.Bool.{cases_order}
use Rattle.anyk_model.specs.Table.{Table}
use Rattle.anyk_model.specs.Query.{Query, item_table}
use Rattle.rankings.specs.Order.{IsMember, IsAscending}
use Rattle.bound_query.specs.Classes.{Passes}
use Rattle.rankings.proofs.Ascending.{ascending_append}
use Rattle.rankings.proofs.Members.{below_member, get_member, member_last, member_left, member_parts}
use Rattle.node_build.specs.Nodes.{AreNodeRows}

-- the rows below n that pass
pub record ArePassingBelow (query : Query) (tables : List Table) (item n : ℕ) (rows : List ℕ) : Type 0 where
  pub ascending : IsAscending (λ a b. a < b) rows
  pub members : (row : ℕ) → IsMember row rows ↔ ((1 ≤ row) × (row < n) × Passes query tables item row)

module _ (query : Query) (tables : List Table) (item : ℕ) where
  pub one_more : (n : ℕ) (rows : List ℕ) → 1 ≤ n → ArePassingBelow query tables item n rows → Passes query tables item n
      → ArePassingBelow query tables item (n + 1) (rows ++ n ∷ [])
  one_more n rows first so_far passes = record {
    ascending = ascending_append (λ a b. a < b) rows (n ∷ []) so_far.ascending (tt, tt) (λ x y m k. below x y ((so_far.members x).0 m).1 k);
    members = λ row. (to row, from row);
  }
    where
      below : (x y : ℕ) → x < n → IsMember y (n ∷ []) → x < y
      below x y l (inl e) = omega (arith, l, e)
      below x y l (inr m) = absurd m

      to : (row : ℕ) → IsMember row (rows ++ n ∷ []) → (1 ≤ row) × (row < n + 1) × Passes query tables item row
      to row m = elim (member_parts row n rows m) [
        | inl before ↦ let h = (so_far.members row).0 before in (h.0, omega (arith, h.1), h.2)
        | inr here ↦ (omega (arith, here, first), omega (arith, here), subst (λ (r : ℕ). Passes query tables item r) (sym here) passes)
      ]

      from : (row : ℕ) → (1 ≤ row) × (row < n + 1) × Passes query tables item row → IsMember row (rows ++ n ∷ [])
      from row (low, high, p) = elim (cases_order row n) [
        | inl here ↦ subst (λ (r : ℕ). IsMember r (rows ++ n ∷ [])) (sym here) (member_last n rows)
        | inr (inl l) ↦ member_left row rows (n ∷ []) ((so_far.members row).1 (low, l, p))
        | inr (inr l) ↦ absurd (omega (arith, l, high))
      ]

  pub none_more : (n : ℕ) (rows : List ℕ) → ArePassingBelow query tables item n rows → (Passes query tables item n → ⊥) → ArePassingBelow query tables item (n + 1) rows
  none_more n rows so_far fails = record {
    ascending = so_far.ascending;
    members = λ row. (λ m. let h = (so_far.members row).0 m in (h.0, omega (arith, h.1), h.2), from row);
  }
    where
      from : (row : ℕ) → (1 ≤ row) × (row < n + 1) × Passes query tables item row → IsMember row rows
      from row (low, high, p) = elim (cases_order row n) [
        | inl here ↦ absurd (fails (subst (λ (r : ℕ). Passes query tables item r) here p))
        | inr (inl l) ↦ (so_far.members row).1 (low, l, p)
        | inr (inr l) ↦ absurd (omega (arith, l, high))
      ]

  pub rows_all : (n : ℕ) (rows : List ℕ) → n ≡ length (item_table query tables item).rows + 1 → ArePassingBelow query tables item n rows → AreNodeRows query tables item rows
  rows_all n rows all so_far = record {
    ascending = so_far.ascending;
    members = λ row. (
      λ m. let h = (so_far.members row).0 m in (h.0, omega (arith, h.1, all), h.2),
      λ h. (so_far.members row).1 (h.0, omega (arith, h.1, all), h.2),
    );
  }

-- ascending numbers rise
pub rises : (xs : List ℕ) (i j : ℕ) → IsAscending (λ a b. a < b) xs → i < j → j < length xs → get_or xs i 0 < get_or xs j 0
rises [] i j h less inside = absurd (omega arith)
rises (x ∷ xs) i zero h less inside = absurd (omega arith)
rises (x ∷ xs) zero (suc j) h less inside = below_member (λ a b. a < b) x (get_or xs j 0) xs h.0 (get_member xs j 0 (omega arith))
rises (x ∷ xs) (suc i) (suc j) h less inside = rises xs i j h.1 (omega arith) (omega arith)
