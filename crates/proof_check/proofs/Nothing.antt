-- Lists of nothing, where each place reads as the default, and lists of what a function says of each
-- place.
use Rattle.std.proofs.Common.{◌≡◌, ◌+◌, ◌<◌, ℕ, List, [], ◌∷◌, ◌++◌, length, get_or, slice_index}
use Rattle.std.proofs.Common.{sym, ap, ◌∙◌, inl, inr, arith, length-append}
use Rattle.std.proofs.lemmas.Bool.{cases_eq, cases_lt}
use Rattle.std.proofs.lemmas.List.{get_or_append_left, get_or_past, get_or_push}

-- with one default more it stays so
pub nothing_more : {A : Type 0} (xs : List A) (d : A) → ((k : ℕ) → get_or xs k d ≡ d) → (k : ℕ) → get_or (xs ++ d ∷ []) k d ≡ d
nothing_more xs d before k = elim (cases_lt k (length xs)) [
  | inl inside ↦ get_or_append_left xs (d ∷ []) d k inside ∙ before k
  | inr far ↦ elim (cases_eq k (length xs)) [
    | inl same ↦ get_or_push xs d d k (sym same)
    | inr other ↦ get_or_past (xs ++ d ∷ []) k d (omega (arith, far, other, length-append xs (d ∷ [])))
  ]
]

-- one number more, each what f says of its place
pub numbers_more : (f : ℕ → ℕ) (xs next : List ℕ) (x i : ℕ) → next ≡ xs ++ x ∷ [] → x ≡ f i → length xs ≡ i
    → ((k : ℕ) → k < i → slice_index xs k ≡ f k) → (k : ℕ) → k < i + 1 → slice_index next k ≡ f k
numbers_more f xs next x i longer here count before k l =
    ap (λ ys. slice_index ys k) longer
    ∙ elim (cases_lt k i) [
      | inl less ↦ get_or_append_left xs (x ∷ []) 0 k (omega (arith, less, count)) ∙ before k less
      | inr far ↦
          let last : k ≡ i = omega (arith, l, far) in
          get_or_push xs x 0 k (omega (arith, last, count)) ∙ here ∙ ap f (sym last)
    ]
