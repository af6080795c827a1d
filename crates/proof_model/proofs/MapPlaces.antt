-- The members of a list that a function gives of another one, and their places.
use Rattle.std.proofs.Common.{◌≡◌, ℕ, zero, suc, ◌<◌, List, [], ◌∷◌, map, length, get_or, refl, inl, inr, arith}
use Rattle.rankings.specs.Order.{IsMember}

module _ {X K : Type 0} (f : X → K) (d : X) where
  pub place_of : (xs : List X) (k : K) → IsMember k (map f xs) → (i : ℕ) × (i < length xs) × (k ≡ f (get_or xs i d))
  place_of [] k m = absurd m
  place_of (x ∷ xs) k (inl e) = (0, omega arith, e)
  place_of (x ∷ xs) k (inr m) = let r = place_of xs k m in (suc r.0, omega (arith, r.1), r.2)

  pub member_at : (xs : List X) (i : ℕ) → i < length xs → IsMember (f (get_or xs i d)) (map f xs)
  member_at [] i l = absurd (omega arith)
  member_at (x ∷ xs) zero l = inl refl
  member_at (x ∷ xs) (suc i) l = inr (member_at xs i (omega (arith, l)))
