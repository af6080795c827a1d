-- Comparing two lists place by place.
use Rattle.std.proofs.Common.{◌≡◌, ℕ, zero, suc, ◌<◌, ℤ, List, [], ◌∷◌, length, take, get_or, true, refl, ap, arith}
use Rattle.std.specs.Ordering.{int_cmp, is_ne, ordering_then}
use Rattle.std.specs.Cmp.Lexicographic.{slice_cmp}
use Rattle.std.specs.declared.cmp.Ordering.{Ordering}
use Rattle.std.specs.declared.cmp.Ordering.TheVariants.{Less, Equal, Greater}

then_ends : (o q : Ordering) → is_ne o ≡ true → ordering_then o q ≡ o
then_ends Less q h = refl
then_ends Equal q h = absurd (search arith)
then_ends Greater q h = refl

-- the first place at which the lists differ decides
pub first_differs : (i : ℕ) (xs ys : List ℤ) (d e : ℤ) → i < length xs → i < length ys → slice_cmp int_cmp (take i xs) (take i ys) ≡ Equal
    → is_ne (int_cmp (get_or xs i d) (get_or ys i e)) ≡ true → slice_cmp int_cmp xs ys ≡ int_cmp (get_or xs i d) (get_or ys i e)
first_differs i [] ys d e p q same differs = absurd (omega arith)
first_differs i (x ∷ xs) [] d e p q same differs = absurd (omega arith)
first_differs zero (x ∷ xs) (y ∷ ys) d e p q same differs = then_ends (int_cmp x y) (slice_cmp int_cmp xs ys) differs
first_differs (suc i) (x ∷ xs) (y ∷ ys) d e p q same differs =
    elim (int_cmp x y) as (λ o. ordering_then o (slice_cmp int_cmp (take i xs) (take i ys)) ≡ Equal → ordering_then o (slice_cmp int_cmp xs ys) ≡ int_cmp (get_or xs i d) (get_or ys i e)) [
      | Less ↦ λ h. absurd (search arith)
      | Equal ↦ λ h. first_differs i xs ys d e (omega arith) (omega arith) h differs
      | Greater ↦ λ h. absurd (search arith)
    ] same

-- one more place at which the lists are equal
pub one_more : (i : ℕ) (xs ys : List ℤ) (d e : ℤ) → i < length xs → i < length ys → slice_cmp int_cmp (take i xs) (take i ys) ≡ Equal
    → int_cmp (get_or xs i d) (get_or ys i e) ≡ Equal → slice_cmp int_cmp (take (suc i) xs) (take (suc i) ys) ≡ Equal
one_more i [] ys d e p q same here = absurd (omega arith)
one_more i (x ∷ xs) [] d e p q same here = absurd (omega arith)
one_more zero (x ∷ xs) (y ∷ ys) d e p q same here = ap (λ o. ordering_then o Equal) here
one_more (suc i) (x ∷ xs) (y ∷ ys) d e p q same here =
    elim (int_cmp x y) as (λ o. ordering_then o (slice_cmp int_cmp (take i xs) (take i ys)) ≡ Equal → ordering_then o (slice_cmp int_cmp (take (suc i) xs) (take (suc i) ys)) ≡ Equal) [
      | Less ↦ λ h. absurd (search arith)
      | Equal ↦ λ h. one_more i xs ys d e (omega arith) (omega arith) h here
      | Greater ↦ λ h. absurd (search arith)
    ] same
