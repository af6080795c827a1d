-- An ascending list of members of a ranking, after which all other members come, is how the ranking begins.
use Rattle.std.proofs.Common.{◌≡◌, ◌⊎◌, List, [], ◌∷◌, length, take, refl, sym, subst, inl, inr}
use Rattle.rankings.specs.Order.{IsOrder, IsMember, IsAscending}
use Rattle.rankings.proofs.Members.{below_member}
use Rattle.rankings.proofs.Unique.{ascending_unique}

module _ {K : Type 0} (Below : K → K → Type 0) (o : IsOrder K Below) where
  -- the head of both lists is one
  heads : (x k : K) (xs ks : List K) → IsAscending Below (x ∷ xs) → IsAscending Below (k ∷ ks) → IsMember x (k ∷ ks)
      → IsMember k (x ∷ xs) ⊎ Below x k → x ≡ k
  heads x k xs ks up rise (inl e) h = e
  heads x k xs ks up rise (inr m) h =
      let less : Below k x = below_member Below k x ks rise.0 m in
      absurd (elim h [
        | inl (inl e) ↦ o.irreflexive x (subst (λ z. Below z x) e less)
        | inl (inr n) ↦ o.irreflexive k (o.transitive k x k less (below_member Below x k xs up.0 n))
        | inr more ↦ o.irreflexive k (o.transitive k x k less more)
      ])

  -- a member that is below x is not x
  not_head : (x y : K) (ys : List K) → Below x y → IsMember y (x ∷ ys) → IsMember y ys
  not_head x y ys less (inl e) = absurd (o.irreflexive x (subst (λ z. Below x z) e less))
  not_head x y ys less (inr m) = m

  pub first_ones : (xs ks : List K) → IsAscending Below xs → IsAscending Below ks
      → ((x : K) → IsMember x xs → IsMember x ks)
      → ((k : K) → IsMember k ks → IsMember k xs ⊎ ((x : K) → IsMember x xs → Below x k)) → xs ≡ take (length xs) ks
  first_ones [] ks up rise there after = refl
  first_ones (x ∷ xs) [] up rise there after = absurd (there x (inl refl))
  first_ones (x ∷ xs) (k ∷ ks) up rise there after =
      let e : x ≡ k = heads x k xs ks up rise (there x (inl refl))
      (elim (after k (inl refl)) [ inl m ↦ inl m | inr all ↦ inr (all x (inl refl)) ]) in
      let rest = first_ones xs ks up.1 rise.1
      (λ y m. not_head k y ks (subst (λ z. Below z y) e (below_member Below x y xs up.0 m)) (there y (inr m)))
      (λ y m. let more : Below x y = subst (λ z. Below z y) (sym e) (below_member Below k y ks rise.0 m) in
      elim (after y (inr m)) [
        | inl n ↦ inl (not_head x y xs more n)
        | inr all ↦ inr (λ z n. all z (inr n))
      ]) in
      λ i. e i ∷ rest i

  -- if there are no others, it is the whole ranking
  pub all_ones : (xs ks : List K) → IsAscending Below xs → IsAscending Below ks
      → ((x : K) → IsMember x xs → IsMember x ks)
      → ((k : K) → IsMember k ks → IsMember k xs) → xs ≡ ks
  all_ones xs ks up rise there back = ascending_unique Below o xs ks up rise there back
