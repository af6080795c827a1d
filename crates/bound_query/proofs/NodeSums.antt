-- Sums of numbers over the nodes of a tree. Where the nodes' items differ, they are at most the sums over all items.
use Rattle.std.proofs.Common.{◌≡◌, ◌≢◌, ◌<◌, ◌≤◌, ◌+◌, ◌==◌, ℕ, zero, suc, cond, true, false, Bool, List, [], ◌∷◌, map, length, slice_index_or, refl, sym, ap, ◌∙◌, arith}
use Rattle.std.specs.List.{range_with_len, sum_by}
use Rattle.std.proofs.lemmas.Bool.Decides.{Decides-eqb}
use Rattle.std.proofs.lemmas.List.Sums.{sum_by-cons}
use Rattle.tdp_model.specs.TreeProblem.{sum_from}
pub use Rattle.tdp_model.proofs.Sums.{sum_fewer}
use Rattle.tdp_model.proofs.Sums.{same_sums}
use Rattle.tdp_model.proofs.Ranges as ranges
use Rattle.bound_query.specs.KeyParts.{sum_of_all}
use Rattle.bound_query.proofs.Sums.{sum_ap}
use Rattle.bound_query.proofs.Parts.{counts}

-- ---- sums node by node

pub sum_none : (f : ℕ → ℕ) → sum_from ◌+◌ 0 f 0 0 ≡ 0
unfolding sum_from
sum_none f = refl

pub sum_same : (f g : ℕ → ℕ) (n q : ℕ) → ((u : ℕ) → q ≤ u → u < q + n → f u ≡ g u)
    → sum_from ◌+◌ 0 f n q ≡ sum_from ◌+◌ 0 g n q
sum_same f g n q h = same_sums ◌+◌ 0 f g n q h

-- the sums of ranges
pub sum_range : (f : ℕ → ℕ) (n q : ℕ) → ranges.sum_of f n q ≡ sum_from ◌+◌ 0 f n q
unfolding ranges.sum_of sum_from
sum_range f zero q = refl
sum_range f (suc n) q = ap (λ z. f q + z) (sum_range f n (suc q))

-- ---- the lengths of lists, by node

pub sum_of_lengths : {X : Type 0} (xss : List (List X)) → sum_of_all (map length xss) ≡ sum_by length xss
sum_of_lengths [] = refl
sum_of_lengths (xs ∷ xss) = omega (arith, sum_of_lengths xss, sum_by-cons length xs xss)

lengths_from : {X : Type 0} (xss : List (List X)) (all : ℕ → ℕ) (q : ℕ)
    → ((v : ℕ) → v < length xss → all (q + v) ≡ length (slice_index_or xss v []))
    → sum_from ◌+◌ 0 all (length xss) q ≡ sum_by length xss
unfolding sum_from
lengths_from [] all q h = refl
lengths_from (xs ∷ xss) all q h =
    let none : q + 0 ≡ q = omega arith in
    let here : all q ≡ length xs = ap all (sym none) ∙ h 0 (omega arith) in
    let rest = lengths_from xss all (suc q)
    (λ v l. let move : suc q + v ≡ q + suc v = omega arith in ap all move ∙ h (suc v) (omega (arith, l))) in
    omega (arith, here, rest, sum_by-cons length xs xss)

pub lengths_in_all : {X : Type 0} (xss : List (List X))
    → sum_from ◌+◌ 0 (λ v. length (slice_index_or xss v [])) (length xss) 0 ≡ sum_by length xss
lengths_in_all xss = lengths_from xss (λ v. length (slice_index_or xss v [])) 0
    (λ v l. let none : 0 + v ≡ v = omega arith in ap (λ w. length (slice_index_or xss w [])) none)

pub lengths_fewer : {X : Type 0} (xss : List (List X)) (m : ℕ) (all : ℕ → ℕ) → length xss ≡ m
    → ((v : ℕ) → v < m → length (slice_index_or xss v []) ≤ all v) → sum_by length xss ≤ sum_from ◌+◌ 0 all m 0
lengths_fewer xss m all count h =
    let long : ℕ → ℕ = λ v. length (slice_index_or xss v []) in
    omega (
      arith,
      lengths_in_all xss,
      ap (λ n. sum_from ◌+◌ 0 long n 0) count,
      sum_fewer long all m 0 (λ v a b. h v (omega (arith, b))),
    )

-- ---- nodes whose items differ

-- the sum over the first n numbers
abbrev pub over : (ℕ → ℕ) → ℕ → ℕ
over f n = sum_of_all (map f (range_with_len 0 n))

-- the values without that of one item
abbrev without : ℕ → (ℕ → ℕ) → ℕ → ℕ
without i f k = cond (i == k) 0 (f k)

split_at : (i : ℕ) (f : ℕ → ℕ) (k : ℕ) → f k ≡ cond (i == k) (f k + without i f k) (without i f k)
split_at i f k = by (i == k)
  where
    by : (b : Bool) → f k ≡ cond b (f k + cond {A = ℕ} b 0 (f k)) (cond {A = ℕ} b 0 (f k))
    by true = omega arith
    by false = refl

take_out : (i n : ℕ) (f : ℕ → ℕ) → i < n → over f n ≡ f i + over (without i f) n
take_out i n f inside =
    sum_ap f (λ k. cond (i == k) (f k + without i f k) (without i f k)) (range_with_len 0 n) (split_at i f)
    ∙ counts i f (without i f) 0 n (omega arith) (omega (arith, inside))

without_other : (i k : ℕ) (f : ℕ → ℕ) → i ≢ k → without i f k ≡ f k
without_other i k f other = by (i == k) refl
  where
    by : (b : Bool) → (i == k) ≡ b → cond {A = ℕ} b 0 (f k) ≡ f k
    by true e = absurd (other ((Decides-eqb i k).0 e))
    by false e = refl

module _ (n : ℕ) (item : ℕ → ℕ) where
  -- the items of the nodes from q on, k of them, are there and differ
  pub record AreApart (k q : ℕ) : Type 0 where
    pub within : (v : ℕ) → q ≤ v → v < q + k → item v < n
    pub differ : (u v : ℕ) → q ≤ u → u < v → v < q + k → item u ≢ item v

  fewer_from : (k q : ℕ) (f : ℕ → ℕ) → AreApart k q → sum_from ◌+◌ 0 (λ v. f (item v)) k q ≤ over f n
  unfolding sum_from
  fewer_from zero q f apart = omega arith
  fewer_from (suc k) q f apart =
      let i = item q in
      let out = take_out i n f (apart.within q (omega arith) (omega arith)) in
      let later : AreApart k (suc q) = record {
        within = λ v a b. apart.within v (omega (arith, a)) (omega (arith, b));
        differ = λ u v a b c. apart.differ u v (omega (arith, a)) b (omega (arith, c));
      } in
      let rest = fewer_from k (suc q) (without i f) later in
      let same = sum_same (λ v. f (item v)) (λ v. without i f (item v)) k (suc q)
      (λ v a b. sym (without_other i (item v) f (apart.differ q v (omega arith) (omega (arith, a)) (omega (arith, b))))) in
      omega (arith, out, rest, same)

  -- a sum over the nodes is at most the sum over all items
  pub fewer_nodes : (m : ℕ) (f : ℕ → ℕ) → AreApart m 0 → sum_from ◌+◌ 0 (λ v. f (item v)) m 0 ≤ over f n
  fewer_nodes m f apart = fewer_from m 0 f apart
