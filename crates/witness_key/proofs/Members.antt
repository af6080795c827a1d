-- An ascending list stays ascending if it is mapped in order.
use Rattle.std.proofs.Common.{List, [], ◌∷◌, map, refl, inl, inr}
use Rattle.rankings.specs.Order.{IsMember, BelowAll, IsAscending}

module _ {A B : Type 0} (f : A → B) (Has : A → Type 0) (Below : A → A → Type 0) (Under : B → B → Type 0)
    (keeps : (x y : A) → Has x → Has y → Below x y → Under (f x) (f y)) where
  below_map : (x : A) (xs : List A) → Has x → ((y : A) → IsMember y xs → Has y) → BelowAll Below x xs → BelowAll Under (f x) (map f xs)
  below_map x [] here all p = tt
  below_map x (y ∷ xs) here all p = (keeps x y here (all y (inl refl)) p.0, below_map x xs here (λ z m. all z (inr m)) p.1)

  -- an ascending list is mapped to an ascending one, if the order of its members is kept
  pub ascending_map : (xs : List A) → ((y : A) → IsMember y xs → Has y) → IsAscending Below xs → IsAscending Under (map f xs)
  ascending_map [] all p = tt
  ascending_map (x ∷ xs) all p =
      (below_map x xs (all x (inl refl)) (λ z m. all z (inr m)) p.0, ascending_map xs (λ z m. all z (inr m)) p.1)
