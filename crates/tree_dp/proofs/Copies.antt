-- A list that was written through a slice.
use Rattle.std.proofs.Common.{◌≡◌, ℕ, ◌<◌, List, ◌++◌, length, get_or, take, drop, sym, ap, subst, ◌∙◌, arith, All}
use Rattle.std.proofs.lemmas.List.Sorted.{All-permutation, length_permutation}
use Rattle.std.proofs.Math.Seq.{take-append_seam}
use Rattle.std.specs.List.Sorted.{IsPermutation}

-- what a vector holds after its slice was permuted
pub after_slice : {X : Type 0} (items slice new result : List X) (len : ℕ) → len ≡ length items → slice ≡ items → IsPermutation slice new → result ≡ take len (new ++ drop (length new) items) → result ≡ new
after_slice items slice new result len is same moved value =
    value ∙ ap (λ n. take n (new ++ drop (length new) items)) (is ∙ ap length (sym same) ∙ sym (length_permutation slice new moved)) ∙ take-append_seam new (drop (length new) items)

-- what holds of all elements holds of the first one after they were permuted
pub first_of : {X : Type 0} (P : X → Type 0) (xs ys whole : List X) (first : X) → All P xs → IsPermutation xs ys → whole ≡ ys → 0 < length xs → first ≡ get_or whole 0 first → P first
first_of P xs ys whole first all moved same some is =
    subst P (sym (is ∙ ap (λ zs. get_or zs 0 first) same)) (All-permutation P xs ys moved all 0 first (omega (arith, some, length_permutation xs ys moved)))
