-- The queue of a group: the merge of the lists of its rows.
use Rattle.std.proofs.Common.{◌≡◌, ◌≢◌, ℕ, ◌+◌, ◌*◌, ◌<◌, ◌≤◌, cond, nat_eq, nat_lt, nat_le, List, length, get_or, sym, ap, subst, inl, inr, arith}
use Rattle.std.proofs.lemmas.Bool.{cases_lt}
use Rattle.std.proofs.lemmas.Bool.Decides.{nat_tests}
use Rattle.rankings.specs.Order.{IsOrder, IsAscending}
use Rattle.tdp_model.specs.Remains.{AtMost, total, IsDivided}
use Rattle.tdp_model.specs.Product.{Pair, same_pair, runs_to, run_key, run_after}
use Rattle.tdp_model.proofs.Keys.{ascending_at_most}
use Rattle.tdp_model.proofs.Products.{same_pair_at, same_pair_only}

-- over numbers: the entry (i, j), and the place y of row x, whose list has n members
run_numbers : (m n i j x y : ℕ) → i < m → (i ≡ x → j < n) →
    cond (nat_lt x m) (cond (nat_lt y n) 1 0) 0 * cond (nat_eq i x) (cond (nat_le j y) 1 0) 0
    ≡ cond (nat_eq i x) (cond (nat_eq j y) 1 0) 0 + (cond (nat_lt x m) (cond (nat_lt y n) 1 0) 0 * cond (nat_eq i x) (cond (nat_le (j + 1) y) 1 0) 0 + 0)
run_numbers m n i j x y a b = elim (cases_lt j n) [ inl l ↦ run_inside m n i j x y a l | inr g ↦ run_other m n i j x y (λ e. omega (arith, b e)) ]
  where
    run_inside : (m n i j x y : ℕ) → i < m → j < n →
        cond (nat_lt x m) (cond (nat_lt y n) 1 0) 0 * cond (nat_eq i x) (cond (nat_le j y) 1 0) 0
        ≡ cond (nat_eq i x) (cond (nat_eq j y) 1 0) 0 + (cond (nat_lt x m) (cond (nat_lt y n) 1 0) 0 * cond (nat_eq i x) (cond (nat_le (j + 1) y) 1 0) 0 + 0)
    run_inside m n i j x y a l = grind (arith, nat_tests)

    run_other : (m n i j x y : ℕ) → i ≢ x →
        cond (nat_lt x m) (cond (nat_lt y n) 1 0) 0 * cond (nat_eq i x) (cond (nat_le j y) 1 0) 0
        ≡ cond (nat_eq i x) (cond (nat_eq j y) 1 0) 0 + (cond (nat_lt x m) (cond (nat_lt y n) 1 0) 0 * cond (nat_eq i x) (cond (nat_le (j + 1) y) 1 0) 0 + 0)
    run_other m n i j x y d = grind (arith, nat_tests)

run_in_order : (m n i j x y : ℕ) → 0 < cond (nat_lt x m) (cond (nat_lt y n) 1 0) 0 * cond (nat_eq i x) (cond (nat_le j y) 1 0) 0
    → (i ≡ x) × (x < m) × (y < n) × (j ≤ y)
run_in_order m n i j x y h = (grind (arith, nat_tests), grind (arith, nat_tests), grind (arith, nat_tests), grind (arith, nat_tests))

pub runs_in_order : (m : ℕ) (sizes : ℕ → ℕ) (f p : Pair) → 0 < runs_to m sizes f p → (f.left ≡ p.left) × (p.left < m) × (p.right < sizes p.left) × (f.right ≤ p.right)
unfolding runs_to
runs_in_order m sizes f p h = run_in_order m (sizes p.left) f.left f.right p.left p.right h

run_split : (m : ℕ) (sizes : ℕ → ℕ) (f p : Pair) → f.left < m → f.right < sizes f.left → runs_to m sizes f p ≡ same_pair f p + total (runs_to m sizes) (run_after f) p
unfolding runs_to total
run_split m sizes f p a b = run_numbers m (sizes p.left) f.left f.right p.left p.right a (λ e. subst (λ k. f.right < sizes k) e b)

-- an entry past its row's end stands for none
pub runs_none : (m : ℕ) (sizes : ℕ → ℕ) (f p : Pair) → sizes f.left ≤ f.right → runs_to m sizes f p ≡ 0
runs_none m sizes f p l = elim (cases_lt 0 (runs_to m sizes f p)) [
  | inl h ↦
      let r : (f.left ≡ p.left) × (p.left < m) × (p.right < sizes p.left) × (f.right ≤ p.right) = runs_in_order m sizes f p h in
      let e : sizes f.left ≡ sizes p.left = ap sizes r.0 in absurd (omega arith)
  | inr z ↦ omega arith
]

pub run_divided : {K : Type 0} (Below : K → K → Type 0) (o : IsOrder K Below) (none : K) (m : ℕ) (lists : ℕ → List K) → ((r : ℕ) → r < m → IsAscending Below (lists r))
    → (f : Pair) → f.left < m → f.right < length (lists f.left)
    → IsDivided Pair Pair K Below (run_key none lists) (runs_to m (λ r. length (lists r))) f (same_pair f) f (run_after f)
run_divided Below o none m lists asc f a b = record {
  at = omega (arith, same_pair_at f);
  only = λ p h. same_pair_only f p h;
  split = λ p. run_split m (λ r. length (lists r)) f p a b;
  least = λ p h.
      let r : (f.left ≡ p.left) × (p.left < m) × (p.right < length (lists p.left)) × (f.right ≤ p.right) = runs_in_order m (λ r. length (lists r)) f p h in
      subst (λ z. AtMost Below (get_or (lists z) f.right none) (get_or (lists p.left) p.right none)) (sym r.0)
      (ascending_at_most Below (lists p.left) f.right p.right none (asc p.left r.1) r.3 r.2);
}
