-- Sums over numbers in another order, and lists that are chosen place by place.
use Rattle.std.proofs.Common.{◌≡◌, ◌≢◌, ◌+◌, ◌<◌, ◌==◌, ℕ, zero, suc, Bool, true, false, cond, ℤ, pos, ◌+ℤ◌, map, refl, sym, ap, ◌∙◌, inl, inr, arith}
use Rattle.std.specs.List.{range_with_len}
use Rattle.std.proofs.lemmas.Bool.{cases_eq}
use Rattle.std.proofs.lemmas.Bool.Decides.{Decides-eqb}
use Rattle.std.proofs.lemmas.Int.{ints}
use Rattle.anyk_model.specs.Query.{total}
use Rattle.bound_query.proofs.Parts.{picks}
pub use Rattle.tdp_model.proofs.Chosen.{Chosen, choose}

-- ---- tests of equal numbers

pub equal_test : (a b : ℕ) → a ≡ b → (a == b) ≡ true
equal_test a b e = (Decides-eqb a b).1 e

pub other_test : (a b : ℕ) → a ≢ b → (a == b) ≡ false
other_test a b ne = by_test (a == b) refl
  where
    by_test : (t : Bool) → (a == b) ≡ t → (a == b) ≡ false
    by_test true e = absurd (ne ((Decides-eqb a b).0 e))
    by_test false e = e

-- ---- sums over a range

pub total_zeros : (a n : ℕ) → total (map (λ (i : ℕ). pos 0) (range_with_len a n)) ≡ pos 0
total_zeros a zero = refl
total_zeros a (suc n) = let h = total_zeros (a + 1) n in omega (arith, ints, h)

-- values that are equal on the range have equal sums
total_within : (f g : ℕ → ℤ) (a n m : ℕ) → a + n ≡ m → ((i : ℕ) → i < m → f i ≡ g i) → total (map f (range_with_len a n)) ≡ total (map g (range_with_len a n))
total_within f g a zero m at e = refl
total_within f g a (suc n) m at e = omega (arith, ints, total_within f g (a + 1) n m (omega arith) e, e a (omega arith))

pub total_same : (f g : ℕ → ℤ) (n : ℕ) → ((i : ℕ) → i < n → f i ≡ g i) → total (map f (range_with_len 0 n)) ≡ total (map g (range_with_len 0 n))
total_same f g n e = total_within f g 0 n n (omega arith) e

last_at : (f : ℕ → ℤ) (a n j : ℕ) → a + n ≡ j → total (map f (range_with_len a (suc n))) ≡ f j +ℤ total (map f (range_with_len a n))
last_at f a zero j at = let e : f a ≡ f j = ap f (omega arith) in omega (arith, ints, e)
last_at f a (suc n) j at = let h = last_at f (a + 1) n j (omega arith) in omega (arith, ints, h)

-- the sum of one number more
pub total_last : (f : ℕ → ℤ) (n : ℕ) → total (map f (range_with_len 0 (suc n))) ≡ f n +ℤ total (map f (range_with_len 0 n))
total_last f n = last_at f 0 n n (omega arith)

-- the sum of a function that is 0 except at one number
pub total_one : (m n : ℕ) (v : ℕ → ℤ) → m < n → total (map (λ (i : ℕ). cond (m == i) (v i +ℤ pos 0) (pos 0)) (range_with_len 0 n)) ≡ v m
total_one m n v inside = omega (arith, ints, picks m v (λ i. pos 0) 0 n (omega arith) (omega arith), total_zeros 0 n)

-- ---- numbers below n in another order

-- `item 0`, `item 1` and so on, for n places, are the numbers below n, each once
pub record IsOrderOf (n : ℕ) (item : ℕ → ℕ) : Type 0 where
  pub within : (v : ℕ) → v < n → item v < n
  pub distinct : (u v : ℕ) → u < v → v < n → item u ≢ item v
  pub each : (a : ℕ) → a < n → (v : ℕ) × (v < n) × (item v ≡ a)

module _ (n : ℕ) (item : ℕ → ℕ) (order : IsOrderOf n item) (g : ℕ → ℤ) where
  -- the value at a number that is among the first k, and 0 at the others
  met : ℕ → ℕ → ℤ
  met zero a = pos 0
  met (suc k) a = cond (item k == a) (g a +ℤ met k a) (met k a)

  met_total : (k : ℕ) → (k < suc n) → total (map (λ v. g (item v)) (range_with_len 0 k)) ≡ total (map (met k) (range_with_len 0 n))
  unfolding met
  met_total zero few = sym (total_zeros 0 n)
  met_total (suc k) few =
      let inside : item k < n = order.within k (omega arith) in
      let p : total (map (met (suc k)) (range_with_len 0 n)) ≡ g (item k) +ℤ total (map (met k) (range_with_len 0 n)) = picks (item k) g (met k) 0 n (omega arith) (omega arith) in
      omega (arith, ints, met_total k (omega arith), total_last (λ v. g (item v)) k, p)

  met_none : (k a : ℕ) → ((v : ℕ) → v < k → item v ≢ a) → met k a ≡ pos 0
  unfolding met
  met_none zero a none = refl
  met_none (suc k) a none =
      ap (λ (b : Bool). cond b (g a +ℤ met k a) (met k a)) (other_test (item k) a (none k (omega arith)))
      ∙ met_none k a (λ v l. none v (omega arith))

  met_one : (k a v : ℕ) → k < suc n → v < k → item v ≡ a → met k a ≡ g a
  unfolding met
  met_one zero a v few l e = absurd (omega arith)
  met_one (suc k) a v few l e = elim (cases_eq v k) [
    | inl is ↦
        let here : item k ≡ a = ap item (sym is) ∙ e in
        let step : met (suc k) a ≡ g a +ℤ met k a = ap (λ (b : Bool). cond b (g a +ℤ met k a) (met k a)) (equal_test (item k) a here) in
        omega (arith, ints, met_none k a (λ u m s. order.distinct u k m (omega arith) (s ∙ sym here)), step)
    | inr other ↦
        let below : v < k = omega (arith, other, l) in
        let there : item k ≢ a = λ s. order.distinct v k below (omega arith) (e ∙ sym s) in
        ap (λ (b : Bool). cond b (g a +ℤ met k a) (met k a)) (other_test (item k) a there) ∙ met_one k a v (omega arith) below e
  ]

  -- a sum over the places is the sum over the numbers
  pub total_reordered : total (map (λ v. g (item v)) (range_with_len 0 n)) ≡ total (map g (range_with_len 0 n))
  total_reordered =
      met_total n (omega arith)
      ∙ total_same (met n) g n (λ a l. let at = order.each a l in met_one n a at.0 (omega arith) at.1 at.2)
