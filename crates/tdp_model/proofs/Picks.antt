-- The value that a test of two numbers picks.
use Rattle.std.proofs.Common.{◌≡◌, ◌≢◌, ℕ, ◌<◌, ◌≤◌, cond, nat_eq, nat_lt, arith}
use Rattle.std.proofs.lemmas.Bool.Decides.{nat_tests}

module _ {K : Type 0} (x y : ℕ) (a b : K) where
  pub pick_eq : x ≡ y → cond (nat_eq x y) a b ≡ a
  pick_eq e = grind (arith, nat_tests)

  pub pick_ne : x ≢ y → cond (nat_eq x y) a b ≡ b
  pick_ne e = grind (arith, nat_tests)

  pub pick_lt : x < y → cond (nat_lt x y) a b ≡ a
  pick_lt e = grind (arith, nat_tests)

  pub pick_ge : y ≤ x → cond (nat_lt x y) a b ≡ b
  pick_ge e = grind (arith, nat_tests)

pub pick_pos : {K : Type 0} (q : ℕ) (a b : K) → 0 < q → cond (nat_eq q 0) a b ≡ b
pick_pos q a b e = pick_ne q 0 a b (λ z. omega arith)
