-- The frontier of a product of two ascending lists.
use Rattle.std.proofs.Common.{◌≡◌, ℕ, ◌+◌, ◌*◌, ◌<◌, ◌≤◌, ◌⊎◌, Bool, true, false, cond, nat_eq, nat_lt, nat_le, List, length, refl, sym, ap, ◌∙◌, inl, inr, arith}
use Rattle.std.proofs.lemmas.Bool.{cases_lt}
use Rattle.std.proofs.lemmas.Bool.Decides.{nat_tests}
use Rattle.rankings.specs.Order.{IsAscending}
use Rattle.tdp_model.specs.KeyLaws.{IsKeys}
use Rattle.tdp_model.specs.Remains.{total, IsDivided}
use Rattle.tdp_model.proofs.Keys.{add_at_most, ascending_at_most}
use Rattle.tdp_model.specs.Product.{Pair, pair_key, is_pair, stands_for, same_pair, offered}
use Rattle.tdp_model.proofs.Picks.{pick_eq}

-- over numbers: the frontier's pair (i, j), and a pair (x, y) of the product of m and n
split_numbers : (m n i j x y : ℕ) → i < m → j < n →
    cond (nat_lt x m) (cond (nat_lt y n) 1 0) 0 * cond (nat_eq j 0) (cond (nat_le i x) 1 0) (cond (nat_eq i x) (cond (nat_le j y) 1 0) 0)
    ≡ cond (nat_eq i x) (cond (nat_eq j y) 1 0) 0
    + cond (nat_eq j 0)
    (cond (nat_lt x m) (cond (nat_lt y n) 1 0) 0 * cond (nat_eq (j + 1) 0) (cond (nat_le i x) 1 0) (cond (nat_eq i x) (cond (nat_le (j + 1) y) 1 0) 0)
    + (cond (nat_lt x m) (cond (nat_lt y n) 1 0) 0 * cond (nat_eq 0 0) (cond (nat_le (i + 1) x) 1 0) (cond (nat_eq (i + 1) x) (cond (nat_le 0 y) 1 0) 0) + 0))
    (cond (nat_lt x m) (cond (nat_lt y n) 1 0) 0 * cond (nat_eq (j + 1) 0) (cond (nat_le i x) 1 0) (cond (nat_eq i x) (cond (nat_le (j + 1) y) 1 0) 0) + 0)
split_numbers m n i j x y a b = grind (arith, nat_tests)

in_order_numbers : (m n i j x y : ℕ) →
    0 < cond (nat_lt x m) (cond (nat_lt y n) 1 0) 0 * cond (nat_eq j 0) (cond (nat_le i x) 1 0) (cond (nat_eq i x) (cond (nat_le j y) 1 0) 0)
    → (x < m) × (y < n) × (i ≤ x) × (j ≤ y)
in_order_numbers m n i j x y h = (grind (arith, nat_tests), grind (arith, nat_tests), grind (arith, nat_tests), grind (arith, nat_tests))

pub stands_in_order : (m n : ℕ) (f p : Pair) → 0 < stands_for m n f p → (p.left < m) × (p.right < n) × (f.left ≤ p.left) × (f.right ≤ p.right)
unfolding stands_for
stands_in_order m n f p h = in_order_numbers m n f.left f.right p.left p.right h

same_numbers : (i j x y : ℕ) → 0 < cond (nat_eq i x) (cond (nat_eq j y) 1 0) 0 → (x ≡ i) × (y ≡ j)
same_numbers i j x y h = (grind (arith, nat_tests), grind (arith, nat_tests))

pair_of : ℕ → ℕ → Pair
pair_of i j = record { left = i; right = j }

pub same_pair_only : (f p : Pair) → 0 < same_pair f p → p ≡ f
unfolding pair_of
same_pair_only f p h =
    let e : (p.left ≡ f.left) × (p.right ≡ f.right) = same_numbers f.left f.right p.left p.right h in
    let g : pair_of p.left p.right ≡ pair_of f.left f.right = ap (λ i. pair_of i p.right) e.0 ∙ ap (λ j. pair_of f.left j) e.1 in g

pub same_pair_at : (f : Pair) → same_pair f f ≡ 1
same_pair_at f = pick_eq f.left f.left _ 0 refl ∙ pick_eq f.right f.right 1 0 refl

total_cond : {R X : Type 0} (count : R → X → ℕ) (b : Bool) (xs ys : List R) (x : X) → total count (cond b xs ys) x ≡ cond b (total count xs x) (total count ys x)
total_cond count true xs ys x = refl
total_cond count false xs ys x = refl

stands_split : (m n : ℕ) (f p : Pair) → f.left < m → f.right < n → stands_for m n f p ≡ same_pair f p + total (stands_for m n) (offered f) p
unfolding stands_for total
stands_split m n f p a b =
    split_numbers m n f.left f.right p.left p.right a b
    ∙ ap (λ z. same_pair f p + z) (sym (total_cond (stands_for m n) (nat_eq f.right 0) _ _ p))

-- a pair past the end of a list stands for none
pub stands_none : (m n : ℕ) (f p : Pair) → m ≤ f.left ⊎ n ≤ f.right → stands_for m n f p ≡ 0
stands_none m n f p (inl l) = elim (cases_lt 0 (stands_for m n f p)) [
  | inl h ↦ let r : (p.left < m) × (p.right < n) × (f.left ≤ p.left) × (f.right ≤ p.right) = stands_in_order m n f p h in absurd (omega arith)
  | inr z ↦ omega arith
]
stands_none m n f p (inr l) = elim (cases_lt 0 (stands_for m n f p)) [
  | inl h ↦ let r : (p.left < m) × (p.right < n) × (f.left ≤ p.left) × (f.right ≤ p.right) = stands_in_order m n f p h in absurd (omega arith)
  | inr z ↦ omega arith
]

-- the first pair stands for all
pub first_stands : (m n : ℕ) (p : Pair) → stands_for m n (record { left = 0; right = 0 }) p ≡ is_pair m n p
unfolding stands_for
first_stands m n p = at (is_pair m n p) p.left
  where
    at : (a x : ℕ) → a * cond (nat_eq 0 0) (cond (nat_le 0 x) 1 0) (cond (nat_eq 0 x) (cond (nat_le 0 x) 1 0) 0) ≡ a
    at a x = grind (arith, nat_tests)

pub product_divided : {K : Type 0} (Below : K → K → Type 0) (add : K → K → K) (none : K) (keys : IsKeys K Below add none) (xs ys : List K) → IsAscending Below xs → IsAscending Below ys
    → (f : Pair) → f.left < length xs → f.right < length ys
    → IsDivided Pair Pair K Below (pair_key add none xs ys) (stands_for (length xs) (length ys)) f (same_pair f) f (offered f)
product_divided Below add none keys xs ys ax ay f a b = record {
  at = omega (arith, same_pair_at f);
  only = λ p h. same_pair_only f p h;
  split = λ p. stands_split (length xs) (length ys) f p a b;
  least = λ p h.
      let r : (p.left < length xs) × (p.right < length ys) × (f.left ≤ p.left) × (f.right ≤ p.right) = stands_in_order (length xs) (length ys) f p h in
      add_at_most Below add none keys _ _ _ _ (ascending_at_most Below xs f.left p.left none ax r.2 r.0) (ascending_at_most Below ys f.right p.right none ay r.3 r.1);
}
