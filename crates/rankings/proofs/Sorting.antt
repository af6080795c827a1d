-- Each finite list of keys has a ranking.
use Rattle.std.proofs.Common.{◌≡◌, ◌⊎◌, List, [], ◌∷◌, refl, sym, subst, inl, inr}
use Rattle.rankings.specs.Order.{IsOrder, IsMember, BelowAll, IsAscending, IsRanking, placed, put_in, ranked}

module _ {K : Type 0} (Below : K → K → Type 0) (o : IsOrder K Below) where
  below_all_of : (k : K) (xs : List K) → ((x : K) → IsMember x xs → Below k x) → BelowAll Below k xs
  below_all_of k [] h = tt
  below_all_of k (x ∷ xs) h = (h x (inl refl), below_all_of k xs (λ y m. h y (inr m)))

  member_below : (k x : K) (xs : List K) → BelowAll Below k xs → IsMember x xs → Below k x
  member_below k x [] a m = absurd m
  member_below k x (y ∷ ys) a (inl e) = subst (λ z. Below k z) (sym e) a.0
  member_below k x (y ∷ ys) a (inr m) = member_below k x ys a.1 m

  placed_member : (k x z : K) (c : Below k x ⊎ (k ≡ x) ⊎ Below x k) (xs rest : List K) → (IsMember z rest → (z ≡ k) ⊎ IsMember z xs)
      → IsMember z (placed Below k x c xs rest) → (z ≡ k) ⊎ IsMember z (x ∷ xs)
  placed_member k x z (inl p) xs rest h m = m
  placed_member k x z (inr (inl e)) xs rest h m = inr m
  placed_member k x z (inr (inr p)) xs rest h (inl e) = inr (inl e)
  placed_member k x z (inr (inr p)) xs rest h (inr m) = elim (h m) [ inl e ↦ inl e | inr n ↦ inr (inr n) ]

  placed_kept : (k x z : K) (c : Below k x ⊎ (k ≡ x) ⊎ Below x k) (xs rest : List K) → (IsMember z xs → IsMember z rest) → IsMember z (x ∷ xs) → IsMember z (placed Below k x c xs rest)
  placed_kept k x z (inl p) xs rest h m = inr m
  placed_kept k x z (inr (inl e)) xs rest h m = m
  placed_kept k x z (inr (inr p)) xs rest h (inl e) = inl e
  placed_kept k x z (inr (inr p)) xs rest h (inr m) = inr (h m)

  placed_new : (k x : K) (c : Below k x ⊎ (k ≡ x) ⊎ Below x k) (xs rest : List K) → IsMember k rest → IsMember k (placed Below k x c xs rest)
  placed_new k x (inl p) xs rest h = inl refl
  placed_new k x (inr (inl e)) xs rest h = inl e
  placed_new k x (inr (inr p)) xs rest h = inr h

  below_lower : (k x : K) (xs : List K) → Below k x → BelowAll Below x xs → BelowAll Below k xs
  below_lower k x xs p a = below_all_of k xs (λ y m. o.transitive k x y p (member_below x y xs a m))

  placed_ascending : (k x : K) (c : Below k x ⊎ (k ≡ x) ⊎ Below x k) (xs rest : List K) → IsAscending Below (x ∷ xs) → IsAscending Below rest → ((z : K) → IsMember z rest → (z ≡ k) ⊎ IsMember z xs)
      → IsAscending Below (placed Below k x c xs rest)
  placed_ascending k x (inl p) xs rest a b h = ((p, below_lower k x xs p a.0), a)
  placed_ascending k x (inr (inl e)) xs rest a b h = a
  placed_ascending k x (inr (inr p)) xs rest a b h =
      (below_all_of x rest (λ z m. elim (h z m) [ inl e ↦ subst (λ w. Below x w) (sym e) p | inr n ↦ member_below x z xs a.0 n ]), b)

  pub put_member : (k z : K) (xs : List K) → IsMember z (put_in Below o k xs) → (z ≡ k) ⊎ IsMember z xs
  unfolding put_in
  put_member k z [] m = m
  put_member k z (x ∷ xs) m = placed_member k x z (o.compare k x) xs (put_in Below o k xs) (put_member k z xs) m

  pub put_kept : (k z : K) (xs : List K) → IsMember z xs → IsMember z (put_in Below o k xs)
  unfolding put_in
  put_kept k z [] m = absurd m
  put_kept k z (x ∷ xs) m = placed_kept k x z (o.compare k x) xs (put_in Below o k xs) (put_kept k z xs) m

  pub put_new : (k : K) (xs : List K) → IsMember k (put_in Below o k xs)
  unfolding put_in
  put_new k [] = inl refl
  put_new k (x ∷ xs) = placed_new k x (o.compare k x) xs (put_in Below o k xs) (put_new k xs)

  pub put_ascending : (k : K) (xs : List K) → IsAscending Below xs → IsAscending Below (put_in Below o k xs)
  unfolding put_in
  put_ascending k [] a = (tt, tt)
  put_ascending k (x ∷ xs) a = placed_ascending k x (o.compare k x) xs (put_in Below o k xs) a (put_ascending k xs a.1) (λ z m. put_member k z xs m)

  ranked_ascending : (xs : List K) → IsAscending Below (ranked Below o xs)
  unfolding ranked
  ranked_ascending [] = tt
  ranked_ascending (x ∷ xs) = put_ascending x (ranked Below o xs) (ranked_ascending xs)

  ranked_sound : (xs : List K) (k : K) → IsMember k (ranked Below o xs) → IsMember k xs
  unfolding ranked
  ranked_sound [] k m = m
  ranked_sound (x ∷ xs) k m = elim (put_member x k (ranked Below o xs) m) [ inl e ↦ inl e | inr n ↦ inr (ranked_sound xs k n) ]

  ranked_complete : (xs : List K) (k : K) → IsMember k xs → IsMember k (ranked Below o xs)
  unfolding ranked
  ranked_complete [] k m = m
  ranked_complete (x ∷ xs) k (inl e) = subst (λ z. IsMember z (put_in Below o x (ranked Below o xs))) (sym e) (put_new x (ranked Below o xs))
  ranked_complete (x ∷ xs) k (inr m) = put_kept x k (ranked Below o xs) (ranked_complete xs k m)

  -- The ranking of a list's members exists.
  pub ranked_is_ranking : (xs : List K) → IsRanking K Below (λ k. IsMember k xs) (ranked Below o xs)
  ranked_is_ranking xs = record { ascending = ranked_ascending xs; sound = ranked_sound xs; complete = ranked_complete xs }
