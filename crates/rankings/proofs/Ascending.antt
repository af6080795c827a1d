-- Ascending lists: what makes one, appending two, and those of its elements that pass a test.
use Rattle.std.proofs.Common.{Bool, true, false, cond, List, [], ◌∷◌, ◌++◌, filter, inl, inr, refl}
use Rattle.rankings.specs.Order.{BelowAll, IsAscending, IsMember}
use Rattle.rankings.proofs.Members.{below_member, kept_member, member_either}

module _ {A : Type 0} (Below : A → A → Type 0) where
  pub below_all : (x : A) (ys : List A) → ((y : A) → IsMember y ys → Below x y) → BelowAll Below x ys
  below_all x [] h = tt
  below_all x (y ∷ ys) h = (h y (inl refl), below_all x ys (λ z m. h z (inr m)))

  pub ascending_append : (xs ys : List A) → IsAscending Below xs → IsAscending Below ys → ((x y : A) → IsMember x xs → IsMember y ys → Below x y)
      → IsAscending Below (xs ++ ys)
  ascending_append [] ys p q h = q
  ascending_append (x ∷ xs) ys p q h = (
    below_all x (xs ++ ys) (λ y m. elim (member_either y xs ys m) [ inl n ↦ below_member Below x y xs p.0 n | inr n ↦ h x y (inl refl) n ]),
    ascending_append xs ys p.1 q (λ a b m n. h a b (inr m) n),
  )

  pub below_filter : (test : A → Bool) (x : A) (xs : List A) → BelowAll Below x xs → BelowAll Below x (filter test xs)
  below_filter test x xs all = below_all x (filter test xs) (λ y m. below_member Below x y xs all (kept_member test y xs m).0)

  pub ascending_filter : (test : A → Bool) (xs : List A) → IsAscending Below xs → IsAscending Below (filter test xs)
  ascending_filter test [] p = tt
  ascending_filter test (x ∷ xs) p = by_test (test x) (ascending_filter test xs p.1)
    where
      by_test : (b : Bool) → IsAscending Below (filter test xs) → IsAscending Below (cond b (x ∷ filter test xs) (filter test xs))
      by_test true k = (below_filter test x xs p.0, k)
      by_test false k = k
