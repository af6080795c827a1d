-- The number of members of lists, and the number of steps of a call.
use Rattle.std.proofs.Common.{◌≡◌, ◌⊎◌, ℕ, suc, ◌+◌, ◌*◌, ◌<◌, ◌≤◌, Bool, true, false, cond, nat_lt, List, [], ◌∷◌, filter, length, inl, inr, arith}
use Rattle.std.proofs.lemmas.Bool.{lt-ltb, cond-true}
use Rattle.rankings.specs.Order.{IsOrder, placed, put_in, ranked}
use Rattle.rank_key.specs.Bits.{bit_length}
use Rattle.rank_key.proofs.BitLemmas.{bit_length_rises}
use Rattle.tdp_core.specs.Shares.{most_steps}

module _ {K : Type 0} (Below : K → K → Type 0) (o : IsOrder K Below) where
  placed_length : (k x : K) (c : Below k x ⊎ (k ≡ x) ⊎ Below x k) (xs rest : List K) → length rest ≤ 1 + length xs
      → length (placed Below k x c xs rest) ≤ 2 + length xs
  placed_length k x (inl p) xs rest h = omega arith
  placed_length k x (inr (inl e)) xs rest h = omega arith
  placed_length k x (inr (inr p)) xs rest h = omega (arith, h)

  put_length : (k : K) (xs : List K) → length (put_in Below o k xs) ≤ 1 + length xs
  unfolding put_in
  put_length k [] = omega arith
  put_length k (x ∷ xs) = let h = placed_length k x (o.compare k x) xs (put_in Below o k xs) (put_length k xs) in omega (arith, h)

  -- a ranking has no more members than the list
  pub ranked_length : (xs : List K) → length (ranked Below o xs) ≤ length xs
  unfolding ranked
  ranked_length [] = omega arith
  ranked_length (x ∷ xs) = let h = put_length x (ranked Below o xs) in let r = ranked_length xs in omega (arith, h, r)

-- nor has a list from which some members are left out
pub filter_length : (p : ℕ → Bool) (xs : List ℕ) → length (filter p xs) ≤ length xs
filter_length p [] = omega arith
filter_length p (x ∷ xs) = at (p x) (filter_length p xs)
  where
    at : (b : Bool) → length (filter p xs) ≤ length xs → length (cond b (x ∷ filter p xs) (filter p xs)) ≤ suc (length xs)
    at true h = omega (arith, h)
    at false h = omega (arith, h)

-- ---- steps

times_one : (m b : ℕ) → 1 ≤ m → b ≤ m * b
times_one m b h = grind arith

-- Out of n entries one is popped, two are put in, and one walk down the tree is made.
pub call_within : (m rows groups n before s1 s2 s3 s4 after : ℕ) → 1 ≤ m → 0 < groups → 1 ≤ n → n ≤ rows
    → s1 ≤ before + 2 * bit_length n → s2 ≤ s1 + 2 + bit_length n → s3 ≤ s2 + 2 + bit_length (n + 1) → s4 ≡ s3 + 1 → after + 2 ≤ s4 + 3 * m
    → after ≤ before + most_steps m rows groups 0
call_within m rows groups n before s1 s2 s3 s4 after some live one few a b c d e =
    let x : ℕ = rows + (0 + 1) * m in
    let more : bit_length (n + 1) ≤ bit_length x = bit_length_rises (n + 1) x (omega (arith, few, some)) in
    let own : bit_length x ≤ m * bit_length x = times_one m (bit_length x) some in
    let is : most_steps m rows groups 0 ≡ 24 * (m * (1 + bit_length x)) = cond-true (nat_lt 0 groups) (24 * (m * (1 + bit_length x))) 0 (lt-ltb 0 groups live) in
    omega (arith, is, bit_length_rises n x (omega (arith, few)), more, own, some, a, b, c, d, e)
